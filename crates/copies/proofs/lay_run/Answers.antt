use Rattle.points.proofs.Copy.{putting_none, putting_next}
use Rattle.copies.proofs.lay_run.Goals as goal

pub loop-m-init : goal.loop-m-init
loop-m-init c = putting_none _ _ _ _

pub loop-m-preserved : goal.loop-m-preserved
loop-m-preserved c = putting_next c.loop-m.invariant c.loop-m-test.true _ c.from-k.ensures _ c.point_at.ensures _ c.put_point.ensures
