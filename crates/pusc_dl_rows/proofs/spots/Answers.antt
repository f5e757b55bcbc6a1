-- `pusc_dl_rows::spots` meets its contract.
use Rattle.base.proofs.Prelude.{arith, rules}
use Rattle.pusc_dl.specs.Map.{spot_of}
use Rattle.pusc_dl_rows.specs.Model.{group_spot}
use Rattle.clusters.proofs.Group.{subchannel_runs}
use Rattle.pusc_dl_rows.proofs.spots.Goals as goal

pub group_spots-requires : goal.group_spots-requires
group_spots-requires c = (search rules, search rules, rw (c.subchannel_start.ensures, c.group_in-g.ensures.0) (omega (arith, subchannel_runs.run_lt c.args.subchannel c.requires.1)))

pub overflow_sub-subchannel : goal.overflow_sub-subchannel
unfolding spot_of group_spot
overflow_sub-subchannel c = rw (c.subchannel_start.ensures, c.group_in-g.ensures.0) (subchannel_runs.start_le _ c.requires.1)

pub returns : goal.returns
unfolding spot_of group_spot
returns c = rw (c.group_spots.ensures, c.subchannel_start.ensures, c.group_in-g.ensures.0)
