use Rattle.base.proofs.Prelude.{arith, rules}
use Rattle.value.specs.Value.{encode}
use Rattle.plan_write.specs.Write.{zone_bytes}
use Rattle.plan_write.proofs.Bytes.{value_small, within}
use Rattle.plan.proofs.Each.{put_begin, put_room, put_again, put_all}
use Rattle.plan_write.proofs.put_zone.Goals as goal

pub loop-k-init : goal.loop-k-init
unfolding zone_bytes
loop-k-init c = (put_begin encode _ 4 _ _ (search rules), within c.requires.0, c.requires.1)

pub write-next-requires : goal.write-next-requires
unfolding zone_bytes
write-next-requires c =
    let inv = c.loop-k.invariant in
    (value_small c.loop-k.k inv.1, put_room inv.0 0 c.loop-k-test.true c.loop-k-test.true inv.2)

pub loop-k-preserved : goal.loop-k-preserved
unfolding zone_bytes
loop-k-preserved c =
    let put = c.write-next in
    let inv = c.loop-k.invariant in
    let in-loop = c.loop-k-test.true in
    (put_again inv.0 0 in-loop in-loop (omega (arith, inv.2)) put.auto.dest put.ensures, inv.1, inv.2)

pub shape_of-dest : goal.shape_of-dest
unfolding zone_bytes
shape_of-dest c = c.loop-k.invariant.0.kept

pub returns : goal.returns
unfolding zone_bytes
returns c = put_all c.loop-k.invariant.0 c.loop-k-test.false
