-- The whole of PUSC downlink: from subchannel and index to symbol and used number, and back.
use Rattle.std.specs.Prelude.{ℕ, ◌+◌, ◌-◌, ◌*◌, ◌/◌, ◌%◌}
use Rattle.base.specs.Steps.{entry}
use Rattle.carriers.specs.declared.Spot.{Spot}
use Rattle.carriers.specs.declared.Address.{Address}
use Rattle.clusters.specs.Cluster.{renumber, unrenumber, cluster_place, cluster_data}
use Rattle.clusters.specs.Group.{cluster_starts, subchannel_starts, group_in, group_size}
use Rattle.clusters.specs.declared.Physical.{Physical}
use Rattle.clusters.specs.declared.Logical.{Logical}
use Rattle.pusc_dl.specs.Inner.{group_data, group_subchannel, group_index}

-- the used number of group data number d of group g, in a symbol: twelve data numbers a cluster, from the group's lowest logical cluster
unfoldable pub group_used : (cell symbol g d : ℕ) → ℕ
group_used cell symbol g d =
    let logical : Logical = record { 0 = entry cluster_starts g + d / 12 } in
    (unrenumber cell logical).0 * 14 + cluster_place symbol (d % 12)

-- Indices 0..23 are on the first symbol, 24..47 on the second. (The offset in the slot has the parity of the symbol's number in the zone.)
unfoldable pub spot_of : (cell subchannel index : ℕ) → Spot
spot_of cell subchannel index =
    let g = group_in subchannel_starts subchannel in
    record {
      offset = index / 24;
      used = group_used cell (index / 24) g (group_data (group_size g) cell (subchannel - entry subchannel_starts g) (index % 24));
    }

-- The reverse: the logical cluster of a used number.
unfoldable pub logical_of : (cell used : ℕ) → Logical
logical_of cell used =
    let physical : Physical = record { 0 = used / 14 } in
    renumber cell physical

-- The reverse: the group of a used number.
unfoldable pub used_group : (cell used : ℕ) → ℕ
used_group cell used = group_in cluster_starts (logical_of cell used).0

-- The reverse: the group data number of a used number in a symbol. Its cluster's place in the group is the logical number less the group's first.
unfoldable pub used_data : (cell symbol used : ℕ) → ℕ
used_data cell symbol used = ((logical_of cell used).0 - entry cluster_starts (used_group cell used)) * 12 + cluster_data symbol (used % 14)

-- The reverse: the address of the point on a used number that is no pilot.
unfoldable pub address_of : (cell offset used : ℕ) → Address
address_of cell offset used =
    let g = used_group cell used in
    let d = used_data cell offset used in
    record {
      subchannel = entry subchannel_starts g + group_subchannel (group_size g) cell d;
      index = offset * 24 + group_index (group_size g) cell d;
    }
