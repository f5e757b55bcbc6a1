use Rattle.base.proofs.Prelude.{ap, ◌∙◌, ℕ, ◌<◌, arith}
use borrow.Author.Count.{below_more}
use Rattle.base.specs.Steps.{entry}
use Rattle.points.specs.Points.{point_at}
use Rattle.points.proofs.Copy.{putting_none, putting_long, putting_next}
use Rattle.fusc_walk.proofs.drop_points.Goals as goal

pub loop-d-init : goal.loop-d-init
loop-d-init c = ((λ e h. absurd (omega arith)), putting_none _ _ _ _)

pub point_at-requires : goal.point_at-requires
point_at-requires c = rw c.from-column.ensures (c.requires _ c.loop-d-test.true).0

pub put_point-requires : goal.put_point-requires
put_point-requires c = rw (c.from-number.ensures, putting_long c.loop-d.invariant.1) (c.requires _ c.loop-d-test.true).1

pub returns-then-carriers-column : goal.returns-then-carriers-column
returns-then-carriers-column c =
    let inv = c.loop-d.invariant in
    record {
      count = c.loop-d.d;
      count_most = inv.1.at_most;
      counted = inv.0;
      over = λ h. rw (← c.from-column.ensures) c.if-carriers-column.true;
      after_is = inv.1.so_far;
    }

-- one column more below the count
pub loop-d-preserved : goal.loop-d-preserved
loop-d-preserved c =
    let inv = c.loop-d.invariant in (
      below_more (λ (e : ℕ). entry c.args.columns.now e < c.args.carriers) _ inv.0 (rw (← c.from-column.ensures) c.if-carriers-column.false),
      putting_next inv.1 c.loop-d-test.true _ c.from-number.ensures _ (c.point_at.ensures ∙ ap (point_at c.args.grid.now) c.from-column.ensures) _ c.put_point.ensures,
    )

pub returns : goal.returns
returns c =
    let inv = c.loop-d.invariant in
    record {
      count = c.loop-d.d;
      count_most = inv.1.at_most;
      counted = inv.0;
      over = λ h. absurd (omega (arith, c.loop-d-test.false));
      after_is = inv.1.so_far;
    }
