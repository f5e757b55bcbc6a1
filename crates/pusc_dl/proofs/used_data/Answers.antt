-- `pusc_dl::used_data` meets its contract.
use Rattle.base.proofs.Prelude.{refl, arith}
use Rattle.pusc_dl.specs.Map.{used_group, used_data, logical_of}
use Rattle.clusters.proofs.{Cluster.pilot_place, Group.cluster_runs}
use Rattle.pusc_dl.proofs.Law.{group_lt, data_lt}
use Rattle.pusc_dl.proofs.used_data.Goals as goal

pub overflow_sub-result : goal.overflow_sub-result
overflow_sub-result c = rw (c.cluster_start.ensures, c.group_in-g.ensures.0) (cluster_runs.start_le _ c.renumber-logical.ensures.1)

pub cluster_data-requires : goal.cluster_data-requires
cluster_data-requires c = (c.requires.1, omega arith, rw pilot_place at c.requires.3)

pub returns : goal.returns
unfolding used_group used_data logical_of
returns c =
    rw (c.cluster_data.ensures.0, c.cluster_start.ensures, c.group_in-g.ensures.0, c.renumber-logical.ensures.0)
    record {
      group_value = (refl, refl);
      group_bound = (group_lt _ c.args.symbol _ c.requires.1 c.requires.2 c.requires.3, data_lt _ _ _ c.requires.1 c.requires.2 c.requires.3);
    }
