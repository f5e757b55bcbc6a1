-- `capi_grid::bp_ground` meets its contract.
use Rattle.points.specs.Points.{point_at}
use Rattle.capi_grid.proofs.bp_ground.Goals as goal

pub returns : goal.returns
unfolding point_at
returns c = rw c.number.ensures (rw c.setup-of.ensures at c.ground-answer.ensures)
