-- `pusc_dl::spot` meets its contract.
use Rattle.base.proofs.Prelude.{arith, rules}
use Rattle.pusc_dl.specs.Map.{spot_of}
use Rattle.clusters.proofs.Group.{subchannel_runs}
use Rattle.pusc_dl.proofs.spot.Goals as goal

pub group_data-d-requires : goal.group_data-d-requires
group_data-d-requires c = (search rules, rw (c.subchannel_start.ensures, c.group_in-g.ensures.0) (omega (arith, subchannel_runs.run_lt c.args.subchannel c.requires.1)), search rules)

pub overflow_sub-s : goal.overflow_sub-s
unfolding spot_of
overflow_sub-s c = rw (c.subchannel_start.ensures, c.group_in-g.ensures.0) (subchannel_runs.start_le _ c.requires.1)

pub returns : goal.returns
unfolding spot_of
returns c = rw (c.group_used.ensures, c.group_data-d.ensures.0, c.subchannel_start.ensures, c.group_in-g.ensures.0)
