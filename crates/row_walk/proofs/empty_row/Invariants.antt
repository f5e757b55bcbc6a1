-- `row_walk::empty_row` meets its contract.
use Rattle.base.proofs.Prelude.{◌*◌, ◌≤◌}
use Rattle.modes.specs.Setup.{alone}
use Rattle.runs.specs.Model.{run_count}
use Rattle.run_walk.specs.Model.{Took, run_start}
use Rattle.row_walk.proofs.empty_row.Given as goal

abbrev pub invariant-loop-i : goal.invariant-loop-i
invariant-loop-i l = (l.i ≤ run_count (alone l.setup)) × Took (alone l.setup) l.mask l.slot l.carriers l.grid (l.row * l.setup.size) (run_start (alone l.setup) l.row l.i) l.initial.points l.points
