-- `ground::pilot_row` meets its contract.
use Rattle.base.proofs.Prelude.{◌*◌, get_or}
use Rattle.modes.specs.{Setup.alone}
use Rattle.points.specs.Points.{zero_point}
use Rattle.runs.specs.{Model.{run_step}}
use Rattle.ground.specs.Model.{PilotsBelow}
use Rattle.ground.proofs.pilot_row.Given as goal

abbrev pub invariant-loop-i : goal.invariant-loop-i
invariant-loop-i l = PilotsBelow (alone l.setup) l.mask l.slot (get_or l.points 1 zero_point) l.row (l.i * run_step (alone l.setup)) l.initial.grid l.grid
