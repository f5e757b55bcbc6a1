-- `clusters::cluster_data` meets its contract.
use Rattle.base.proofs.Prelude.{refl}
use Rattle.clusters.specs.Cluster.{cluster_data}
use Rattle.clusters.proofs.{Cluster.on_data}
use Rattle.clusters.proofs.cluster_data.Goals as goal

pub returns : goal.returns
unfolding cluster_data
returns c =
    let p = c.pilots-p.ensures in
    rw (c.unskip-2.ensures.0, c.unskip.ensures.0, p.0, p.1) (refl, (on_data _ _ c.requires.0 c.requires.1 c.requires.2).data_lt)
