-- `pusc_dl_points::group_numbers` meets its contract.
use Rattle.base.proofs.{Prelude.{◌+◌, ◌*◌}, Tabulate.Written}
use Rattle.pusc_dl_points.specs.Model.{point_of_data}
use Rattle.pusc_dl_points.proofs.group_numbers.Given as goal

abbrev pub invariant-loop-r : goal.invariant-loop-r
invariant-loop-r g l = Written 12 (λ r. l.first + point_of_data g.row.SIZE l.cell (l.i * 12 + r)) l.numbers l.r
