-- `fusc_rows::moves` meets its contract.
use Rattle.fusc_rows.specs.Model.{Moves}
use Rattle.fusc_rows.proofs.moves.Given as goal

abbrev pub invariant-loop-i : goal.invariant-loop-i
invariant-loop-i l = Moves l.pilots l.i l.table
