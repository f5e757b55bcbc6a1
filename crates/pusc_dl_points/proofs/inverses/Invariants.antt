-- `pusc_dl_points::inverses` meets its contract.
use Rattle.base.proofs.{Tabulate.{Written}}
use Rattle.pusc_dl_points.specs.Model.{inverse_entry}
use Rattle.pusc_dl_points.proofs.inverses.Given as goal

abbrev pub invariant-loop-x : goal.invariant-loop-x
invariant-loop-x l = Written 48 (inverse_entry l.cell) l.inverses l.x
