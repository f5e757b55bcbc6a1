-- `pusc_dl::group_used` meets its contract.
use Rattle.base.proofs.Prelude.{refl, arith}
use Rattle.pusc_dl.specs.Map.{group_used}
use Rattle.clusters.proofs.Group.{cluster_runs}
use Rattle.pusc_dl.proofs.group_used.Goals as goal

pub unrenumber-physical-requires : goal.unrenumber-physical-requires
unrenumber-physical-requires c = (refl, c.requires.0, rw c.cluster_start.ensures (cluster_runs.number_lt _ _ c.requires.1 (omega arith)))

pub returns : goal.returns
unfolding group_used
returns c = rw (c.cluster_place.ensures.0, c.unrenumber-physical.ensures.0, c.cluster_start.ensures)
