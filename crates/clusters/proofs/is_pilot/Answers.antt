-- `clusters::is_pilot` meets its contract.
use Rattle.base.proofs.Prelude.{eq-eqb, ne_eqb}
use Rattle.clusters.specs.Cluster.{is_cluster_pilot}
use Rattle.clusters.proofs.is_pilot.Goals as goal

pub returns-then-place-p : goal.returns-then-place-p
unfolding is_cluster_pilot
returns-then-place-p c = let p = c.pilots-p.ensures in simp (← p.0, ← p.1, eq-eqb _ _ c.if-place-p.true)

pub returns-else-place-p : goal.returns-else-place-p
unfolding is_cluster_pilot
returns-else-place-p c = let p = c.pilots-p.ensures in simp (← p.0, ← p.1, ne_eqb _ _ c.if-place-p.false)
