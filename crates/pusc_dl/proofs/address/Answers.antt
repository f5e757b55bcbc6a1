-- `pusc_dl::address` meets its contract.
use Rattle.base.proofs.Prelude.{arith, rules}
use Rattle.pusc_dl.specs.Map.{address_of}
use Rattle.clusters.proofs.Group.{subchannel_runs}
use Rattle.pusc_dl.proofs.address.Goals as goal

pub overflow_add-result : goal.overflow_add-result
overflow_add-result c = rw c.subchannel_start.ensures (omega (arith, subchannel_runs.number_lt c.used_data-d.result.group c.group_address-a.result.subchannel (search rules) (search rules)))

pub returns : goal.returns
unfolding address_of
returns c =
    let a = c.group_address-a.ensures.subchannel_value in
    let d = c.used_data-d.ensures.group_value in
    rw (c.subchannel_start.ensures, a.0, a.1, d.0, d.1)
