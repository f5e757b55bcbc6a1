use Rattle.base.proofs.{Prelude.{refl, arith}, Tabulate.{written_next}}
use Rattle.pusc_dl_rows.specs.Model.{group_cluster}
use Rattle.clusters.proofs.Group.{cluster_runs}
use Rattle.pusc_dl_rows.proofs.group_clusters.Goals as goal

pub unrenumber-physical-requires : goal.unrenumber-physical-requires
unrenumber-physical-requires c =
    let h = c.loop-i-test.true in
    (refl, c.requires.0, rw c.cluster_start-start.ensures (cluster_runs.number_lt _ _ c.requires.1 (rw c.group_size-count.ensures.0 at h)))

pub loop-i-preserved : goal.loop-i-preserved
unfolding group_cluster
loop-i-preserved c = written_next c.loop-i.invariant (omega arith) _ (rw (c.unrenumber-physical.ensures.0, c.cluster_start-start.ensures))
