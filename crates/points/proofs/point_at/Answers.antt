-- `points::point_at` meets its contract.
use Rattle.base.proofs.Prelude.{rules}
use Rattle.points.specs.Points.{point_at}
use Rattle.points.proofs.point_at.Goals as goal

pub returns : goal.returns
unfolding point_at
returns c = search rules
