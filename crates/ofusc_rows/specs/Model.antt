-- How a row of data numbers, and the points of a bin, are found fast. No reader needs this to know what the calls do.
use Rattle.std.specs.Prelude.{ℕ, ◌+◌, ◌*◌}
use Rattle.std.specs.Int.Bits.{bit_xor}
use Rattle.base.specs.Steps.{unrotate}
use Rattle.ofusc.specs.Map.{cell_term}

-- what the cell alone fixes of the data number in group k: N·k and the terms of both sequences
unfoldable pub cell_number : (n cell k : ℕ) → ℕ
cell_number n cell k = k * n + cell_term n cell k

-- the data number of subchannel s in group k
unfoldable pub group_number : (n cell s k : ℕ) → ℕ
group_number n cell s k = k * n + bit_xor s (cell_term n cell k)

-- the number of the point of subchannel s in group k
unfoldable pub point_in_group : (s k : ℕ) → ℕ
point_in_group s k = s * 48 + unrotate 48 (23 * s) k
