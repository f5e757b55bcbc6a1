use Rattle.base.proofs.Prelude.{◌∙◌, ◌+◌, arith}
use Rattle.clusters.proofs.{Group.size_most, Halves.{halves_next, halves_all}}
use Rattle.pusc_dl_rows.proofs.Row.{turn, data-number, run_lt, cluster_lt, spot}
use Rattle.pusc_dl_rows.proofs.group_spots.Goals as goal

pub spot_numbers-both-requires : goal.spot_numbers-both-requires
spot_numbers-both-requires c =
    let t = turn _ _ _ _ _ _ _ c.group_clusters-clusters.ensures c.group_bases-bases.ensures c.requires.1 c.requires.2 c.loop-k-test.true c.reduce-n.ensures.0 in
    rw (data-number t _ _ c.group_size-size.ensures.0 c.from.ensures) (omega (arith, run_lt t, size_most c.args.g), cluster_lt t)

pub loop-k-preserved : goal.loop-k-preserved
loop-k-preserved c =
    let t = turn _ _ _ _ _ _ _ c.group_clusters-clusters.ensures c.group_bases-bases.ensures c.requires.1 c.requires.2 c.loop-k-test.true c.reduce-n.ensures.0 in
    let d = data-number t _ _ c.group_size-size.ensures.0 c.from.ensures in
    let both = c.spot_numbers-both.ensures in
    let k = c.loop-k.k in
    halves_next c.loop-k.invariant c.loop-k-test.true _ _
    (both.0 ∙ rw d (omega (arith, spot t 0 k (omega arith) (omega arith))))
    (both.1 ∙ rw d (spot t 1 (k + 24) (omega arith) (omega arith)))

pub returns : goal.returns
returns c = halves_all c.loop-k.invariant c.loop-k-test.false
