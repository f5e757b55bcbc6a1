-- `fusc_points::turned_inverse` meets its contract.
use Rattle.base.proofs.{Tabulate.{Written}}
use Rattle.fusc_points.specs.Model.{turned_inverse}
use Rattle.fusc_points.proofs.turned_inverse.Given as goal

abbrev pub invariant-loop-x : goal.invariant-loop-x
invariant-loop-x l = Written 32 (turned_inverse l.cell) l.row l.x
