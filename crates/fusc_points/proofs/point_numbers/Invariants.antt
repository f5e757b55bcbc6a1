-- `fusc_points::point_numbers` meets its contract.
use Rattle.base.proofs.{Prelude.{◌≡◌, ◌*◌, length}}
use Rattle.base.specs.Model.{Starts}
use Rattle.fusc_points.specs.Model.{point_of_data}
use Rattle.fusc_points.proofs.point_numbers.Given as goal

abbrev pub invariant-loop-n : goal.invariant-loop-n
invariant-loop-n l = (length l.row ≡ 1536) × Starts (l.n * 32) (point_of_data l.cell) l.row
