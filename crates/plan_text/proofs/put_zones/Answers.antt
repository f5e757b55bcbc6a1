use Rattle.base.proofs.Prelude.{arith, rules}
use Rattle.zone.specs.Zone.{unused}
use Rattle.plan.proofs.{Places.length_mapped, Each.{put_begin, put_again, put_all, put_end}}
use Rattle.plan_text.proofs.put_zones.Goals as goal

pub loop-k-init : goal.loop-k-init
loop-k-init c = (put_begin _ _ _ _ _ (search (length_mapped, rules) depth 8), omega arith)

pub shape_of-dest-then-plan-k : goal.shape_of-dest-then-plan-k
shape_of-dest-then-plan-k c = c.loop-k.invariant.0.kept

pub returns-then-plan-k : goal.returns-then-plan-k
returns-then-plan-k c = put_all c.loop-k.invariant.0 c.if-plan-k.true

pub put_line-at-requires : goal.put_line-at-requires
put_line-at-requires c =
    let inv = c.loop-k.invariant in
    omega (arith, c.requires, inv.0.kept, inv.1)

pub loop-k-preserved : goal.loop-k-preserved
loop-k-preserved c =
    let line = c.put_line-at in
    let inv = c.loop-k.invariant in
    (put_again inv.0 unused (omega arith) (omega arith) (omega arith) line.auto.dest line.ensures.0, omega (arith, inv.1, line.ensures.1))

pub shape_of-dest : goal.shape_of-dest
shape_of-dest c = c.loop-k.invariant.0.kept

pub returns : goal.returns
returns c = put_end c.loop-k.invariant.0 c.loop-k-test.false
