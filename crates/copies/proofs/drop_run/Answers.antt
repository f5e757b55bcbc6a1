use Rattle.base.proofs.Prelude.{ap, ◌∙◌, ◌+◌}
use Rattle.points.specs.Points.{point_at}
use Rattle.points.proofs.Copy.{putting_none, putting_next}
use Rattle.copies.proofs.drop_run.Goals as goal

pub loop-j-init : goal.loop-j-init
loop-j-init c = putting_none _ _ _ _

pub loop-j-preserved : goal.loop-j-preserved
loop-j-preserved c =
    putting_next c.loop-j.invariant c.loop-j-test.true _ c.from-number.ensures
    _ (c.point_at.ensures ∙ ap (λ w. point_at c.args.grid.now (c.args.start + w)) c.from.ensures) _ c.put_point.ensures
