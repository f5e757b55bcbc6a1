-- `fusc_points::put_numbers` meets its contract.
use Rattle.base.proofs.{Prelude.{◌+◌, ◌*◌}, Tabulate.{Written}}
use Rattle.fusc_points.specs.Model.{point_of_data}
use Rattle.fusc_points.proofs.put_numbers.Given as goal

abbrev pub invariant-loop-x : goal.invariant-loop-x
invariant-loop-x l = Written 1536 (point_of_data l.cell) l.row (l.n * 32 + l.x)
