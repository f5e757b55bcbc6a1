-- `point_numbers::numbers_by_run` meets its contract.
use Rattle.base.proofs.Prelude.{◌+◌, ◌*◌}
use Rattle.modes.specs.{Setup.alone, Mode.symbols}
use Rattle.point_numbers.proofs.Filled.{RunsTurn}
use Rattle.point_numbers.proofs.numbers_by_run.Given as goal

abbrev pub invariant-loop-i : goal.invariant-loop-i
invariant-loop-i l = RunsTurn (alone l.setup) l.mask (l.slot * symbols (alone l.setup) + l.row) l.numbers l.i
