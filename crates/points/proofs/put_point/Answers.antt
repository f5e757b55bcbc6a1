-- `points::put_point` meets its contract.
use Rattle.base.proofs.Prelude.{rules}
use Rattle.points.specs.Model.{put_point}
use Rattle.points.proofs.put_point.Goals as goal

pub returns : goal.returns
unfolding put_point
returns c = search rules
