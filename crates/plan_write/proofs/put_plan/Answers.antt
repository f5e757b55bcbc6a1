use Rattle.base.proofs.Prelude.{◌∙◌, arith, rules}
use Rattle.text.proofs.Laws.{put_three}
use Rattle.zone.specs.Zone.{unused}
use Rattle.plan_write.specs.Write.{plan_bytes}
use Rattle.plan.proofs.{Places.length_mapped, Judge.{fit_of, all_small, count_most, size_small}}
use Rattle.plan.proofs.Each.{put_begin, put_room, put_again, put_all}
use Rattle.plan_write.proofs.{Bytes.plan_length}
use Rattle.plan_write.proofs.put_plan.Goals as goal

pub write-after_count-requires : goal.write-after_count-requires
write-after_count-requires c =
    let most = count_most _ (fit_of _ c.requires.0).count_is in
    (omega arith, omega (arith, c.requires.1, plan_length c.args.plan))

pub write-at-requires : goal.write-at-requires
write-at-requires c =
    let few = size_small _ (fit_of c.args.plan c.requires.0).size_is in
    (omega arith, omega (arith, c.requires.1, c.write-after_count.ensures.next_is, c.write-after_count.auto.dest, plan_length c.args.plan))

pub loop-k-init : goal.loop-k-init
loop-k-init c =
    let second = c.write-at in
    let first = c.write-after_count in (
      put_begin _ _ _ _ _ (search (length_mapped, rules) depth 8),
      count_most _ (fit_of c.args.plan c.requires.0).count_is,
      omega (arith, c.requires.1, first.ensures.next_is, first.auto.dest, second.ensures.next_is, second.auto.dest, plan_length c.args.plan),
    )

pub put_zone-at-requires : goal.put_zone-at-requires
put_zone-at-requires c =
    let inv = c.loop-k.invariant in
    (all_small (fit_of _ c.requires.0) inv.0.places _, put_room inv.0 unused (omega (arith, inv.1)) c.loop-k-test.true inv.2)

pub loop-k-preserved : goal.loop-k-preserved
loop-k-preserved c =
    let put = c.put_zone-at in
    let inv = c.loop-k.invariant in
    (put_again inv.0 unused (omega (arith, inv.1)) c.loop-k-test.true (omega (arith, inv.2)) put.auto.dest put.ensures, inv.1, inv.2)

pub shape_of-dest : goal.shape_of-dest
shape_of-dest c = c.loop-k.invariant.0.kept ∙ c.write-at.auto.dest ∙ c.write-after_count.auto.dest

pub returns : goal.returns
unfolding plan_bytes
returns c = put_three _ _ _ (omega arith) c.write-after_count.ensures c.write-at.ensures (put_all c.loop-k.invariant.0 c.loop-k-test.false)
