-- `pusc_dl_points::logical_entry` meets its contract.
use Rattle.base.proofs.{Prelude.{◌-◌, ◌<◌, arith}}
use Rattle.pusc_dl_points.specs.Model.{logical_entry}
use Rattle.clusters.proofs.Group.{cluster_runs}
use Rattle.pusc_dl_points.proofs.Points.{place_small, rank_at}
use Rattle.pusc_dl_points.proofs.logical_entry.Goals as goal

pub overflow_mul-result : goal.overflow_mul-result
overflow_mul-result c = omega (arith, rank_at _ c.args.mask _ c.requires.0 c.group_in-g.ensures.1)

pub overflow_sub-result : goal.overflow_sub-result
overflow_sub-result c = rw (c.cluster_start.ensures, c.group_in-g.ensures.0) (cluster_runs.start_le _ c.requires.1)

pub overflow_add-result-2 : goal.overflow_add-result-2
overflow_add-result-2 c =
    let place : c.args.logical.0 - c.cluster_start.result < 24 =
    rw (c.cluster_start.ensures, c.group_in-g.ensures.0) (place_small c.args.mask c.args.logical c.requires.1) in
    omega (arith, rank_at _ c.args.mask _ c.requires.0 c.group_in-g.ensures.1)

pub returns : goal.returns
unfolding logical_entry
returns c = rw ((rank_at _ c.args.mask _ c.requires.0 c.group_in-g.ensures.1).0, c.cluster_start.ensures, c.group_in-g.ensures.0)
