-- B as the code has it. No reader needs this to know what the calls do.
use Rattle.std.specs.Prelude.{List, ◌++◌, ℕ, ◌+◌, ◌%◌}
use Rattle.clusters.specs.Table.{base12, base8}
use Rattle.clusters.specs.Group.{group_size, base_of}

-- the bases on past M, so that s + n needs no reduction
abbrev pub base12_thrice : List ℕ
base12_thrice = base12 ++ (base12 ++ base12)

abbrev pub base8_four_times : List ℕ
base8_four_times = base8 ++ (base8 ++ (base8 ++ base8))

-- B of group g at i mod M, turned by the cell: (B[i mod M] + cell) mod M
unfoldable pub turned_base : (g cell i : ℕ) → ℕ
turned_base g cell i = (base_of (group_size g) (i % group_size g) + cell) % group_size g
