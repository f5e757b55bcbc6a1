-- `pusc_dl::address_by` meets its contract.
use Rattle.pusc_dl.specs.Inner.{group_subchannel, group_index}
use Rattle.clusters.specs.Group.{base_inverse}
use Rattle.pusc_dl.proofs.address_by.Goals as goal

pub returns-clause-subchannel_value : goal.returns-clause-subchannel_value
unfolding base_inverse group_subchannel group_index
returns-clause-subchannel_value g c =
    let k = c.unrotate.ensures.0 in
    let s = c.unrotate-s.ensures.0 in
    let i = c.from.ensures in
    let p = c.unrotate-place.ensures.0 in
    (rw (s, i, p, c.requires.3), rw (k, s, i, p, c.requires.3))
