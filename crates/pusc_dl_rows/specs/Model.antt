-- How a row of spots is found fast. No reader needs this to know what the calls do.
use Rattle.std.specs.Prelude.{ℕ, ◌+◌, ◌*◌, ◌/◌, ◌%◌}
use Rattle.base.specs.Steps.{entry}
use Rattle.clusters.specs.Cluster.{unrenumber}
use Rattle.clusters.specs.Group.{cluster_starts, group_size}
use Rattle.clusters.specs.declared.Logical.{Logical}
use Rattle.pusc_dl.specs.Inner.{group_data}
use Rattle.pusc_dl.specs.Map.{group_used}

-- the first used number of the cluster whose place in group g is i
unfoldable pub group_cluster : (cell g i : ℕ) → ℕ
group_cluster cell g i =
    let logical : Logical = record { 0 = entry cluster_starts g + i } in
    (unrenumber cell logical).0 * 14

-- the spot of point `index` of subchannel s, counted in group g, as a number
unfoldable pub group_spot : (cell g s index : ℕ) → ℕ
group_spot cell g s index = index / 24 * 2048 + group_used cell (index / 24) g (group_data (group_size g) cell s (index % 24))
