-- How the points of a cluster are found fast. No reader needs this to know what the calls do.
use Rattle.std.specs.Prelude.{◌≡◌, List, ℕ, ◌+◌, ◌-◌, ◌*◌, ◌%◌, ◌<◌, ltb}
use Rattle.base.specs.Choice.{pick}
use Rattle.base.specs.Steps.{entry, unrotate}
use Rattle.base.specs.Rank.{rank}
use Rattle.clusters.specs.Cluster.{renumber, cluster_place}
use Rattle.clusters.specs.Group.{cluster_starts, subchannel_starts, group_in, base_inverse}
use Rattle.clusters.specs.declared.Physical.{Physical}
use Rattle.clusters.specs.declared.Logical.{Logical}
use Rattle.pusc_dl.specs.Inner.{group_subchannel, group_index}
use Rattle.pusc_dl.specs.Map.{address_of}
use Rattle.pusc_dl_lit.specs.Lit.{has_group}

-- The reverse: where in B of a size a place stands, turned back by the cell; x is the place, counted on past the size.
unfoldable pub turned_inverse : (size cell x : ℕ) → ℕ
turned_inverse size cell x = base_inverse size (unrotate size cell (x % size))

-- the inverses of both bases, turned back by the cell, in one row: that of 12 twice over, then that of 8 three times, so that twelve in a row need no reduction
unfoldable pub inverse_entry : (cell x : ℕ) → ℕ
inverse_entry cell x = pick (ltb x 24) (turned_inverse 12 cell x) (turned_inverse 8 cell x)

-- 24 entries of such a row, from a place on, are those of a size
abbrev pub InverseFrom : (size cell start : ℕ) (inverses : List ℕ) → Type 0
InverseFrom size cell start inverses = (x : ℕ) → x < 24 → (entry inverses (start + x) ≡ turned_inverse size cell x) × (entry inverses (start + x) < size)

-- the number of the point of a group's data number, 48 a subchannel of the group
unfoldable pub point_of_data : (size cell d : ℕ) → ℕ
point_of_data size cell d = group_subchannel size cell d * 48 + group_index size cell d

-- how many subchannels below s a mask lights
abbrev pub subchannel_rank : (mask s : ℕ) → ℕ
subchannel_rank mask s = rank (λ x. has_group mask (group_in subchannel_starts x)) s

-- the first numbers of a mask's groups
abbrev pub group_rank : (mask g : ℕ) → ℕ
group_rank mask g = subchannel_rank mask (entry subchannel_starts g)

-- a logical cluster as one number: the rank of its group's first subchannel, whether the group is an odd one, and the cluster's place in it
unfoldable pub logical_entry : (mask : ℕ) (l : Logical) → ℕ
logical_entry mask l =
    let g = group_in cluster_starts l.0 in
    group_rank mask g * 64 + (g % 2 * 32 + (l.0 - entry cluster_starts g))

-- physical cluster p as one number, by its logical number
unfoldable pub cluster_entry : (cell mask p : ℕ) → ℕ
cluster_entry cell mask p =
    let physical : Physical = record { 0 = p } in
    logical_entry mask (renumber cell physical)

-- the number of the point on data place r of physical cluster p, among those of the subchannels that a mask lights
unfoldable pub cluster_number : (cell mask offset p r : ℕ) → ℕ
cluster_number cell mask offset p r =
    let a = address_of cell offset (p * 14 + cluster_place offset r) in
    subchannel_rank mask a.subchannel * 48 + a.index
