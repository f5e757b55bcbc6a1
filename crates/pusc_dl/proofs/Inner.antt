-- The inner permutation: the points and the data numbers of a group are the same, one for one.
use Rattle.base.proofs.{Prelude.{ℕ, lit<}, Inner.{Inner, inner}}
use Rattle.clusters.specs.Group.{group_size}
use Rattle.clusters.proofs.Group.{size_pos, base_perm}
use Rattle.pusc_dl.specs.Inner.{group_data, group_subchannel, group_index}

-- the points of the subchannels of group g in a symbol, and its data numbers
pub group_inner : (g cell : ℕ) → let size = group_size g in Inner 24 size (group_data size cell) (group_subchannel size cell) (group_index size cell)
unfolding group_data group_subchannel group_index
group_inner g cell = inner 24 (group_size g) (base_perm g) cell (lit< tt) (size_pos g)
