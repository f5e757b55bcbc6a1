-- `clusters::cluster_place` meets its contract.
use Rattle.base.proofs.Prelude.{rules}
use Rattle.clusters.specs.Cluster.{cluster_place}
use Rattle.clusters.proofs.cluster_place.Goals as goal

pub returns : goal.returns
unfolding cluster_place
returns c =
    let p = c.pilots-p.ensures in
    (rw (c.skip-2.ensures.0, c.skip.ensures.0, p.0, p.1), search rules)
