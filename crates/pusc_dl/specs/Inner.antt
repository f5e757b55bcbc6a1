-- The inner permutation. Document 01, "Partial usage": from the points of a major group's subchannels to the group's data numbers.
use Rattle.std.specs.Prelude.{ℕ, ◌+◌, ◌*◌, ◌/◌, ◌%◌}
use Rattle.base.specs.Steps.{unrotate}
use Rattle.clusters.specs.Group.{base_of, base_inverse}

-- With s counted in the group and k = index mod 24: n = (k+13s) mod 24, group data number = M·n + (B[(n+s) mod M] + cell) mod M.
unfoldable pub group_data : (size cell s k : ℕ) → ℕ
group_data size cell s k =
    let n = (k + 13 * s) % 24 in
    n * size + (base_of size ((s + n) % size) + cell) % size

-- The reverse: the subchannel, counted in the group, of a group data number.
unfoldable pub group_subchannel : (size cell d : ℕ) → ℕ
group_subchannel size cell d = unrotate size (d / size) (base_inverse size (unrotate size cell (d % size)))

-- The reverse: the index mod 24 of a group data number.
unfoldable pub group_index : (size cell d : ℕ) → ℕ
group_index size cell d = unrotate 24 (13 * group_subchannel size cell d) (d / size)
