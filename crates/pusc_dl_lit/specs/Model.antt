-- How the lit clusters are found fast. No reader needs this to know what the calls do.
use Rattle.std.specs.Prelude.{ℕ, ◌*◌, ◌^◌}
use Rattle.base.specs.Choice.{pick}
use Rattle.clusters.specs.Cluster.{renumber}
use Rattle.clusters.specs.Group.{cluster_starts, group_in}
use Rattle.clusters.specs.declared.Physical.{Physical}
use Rattle.pusc_dl.specs.Map.{used_group}
use Rattle.pusc_dl_lit.specs.Lit.{has_group}

-- the bit of the group of physical cluster p of cell 0
unfoldable pub group_bit : (p : ℕ) → ℕ
group_bit p =
    let physical : Physical = record { 0 = p } in
    2 ^ group_in cluster_starts (renumber 0 physical).0

-- 1 where a mask lights physical cluster p, whose used numbers are 14p to 14p+13
unfoldable pub cluster_lit : (cell mask p : ℕ) → ℕ
cluster_lit cell mask p = pick (has_group mask (used_group cell (p * 14))) 1 0
