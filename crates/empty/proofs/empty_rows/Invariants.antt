-- `empty::empty_rows` meets its contract.
use Rattle.modes.specs.{Setup.alone}
use Rattle.empty.proofs.Rows.{SlotTurn}
use Rattle.empty.proofs.empty_rows.Given as goal

abbrev pub invariant-loop-row : goal.invariant-loop-row
invariant-loop-row l = SlotTurn (alone l.setup) l.mask l.slot l.carriers l.grid l.initial.points l.points l.row
