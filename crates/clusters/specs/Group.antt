-- Major groups. Document 01, "Partial usage": six groups start at logical 0, 24, 40, 64, 80, 104; even groups have 12 subchannels, odd ones 8, numbered through.
use Rattle.std.specs.Prelude.{List, [], ◌∷◌, ℕ, ◌%◌, eqb, ltb}
use Rattle.base.specs.Choice.{pick}
use Rattle.base.specs.Steps.{entry}
use Rattle.clusters.specs.Table.{base12, base12_inverse, base8, base8_inverse}

-- the first logical cluster of each group
abbrev pub cluster_starts : List ℕ
cluster_starts = 0 ∷ 24 ∷ 40 ∷ 64 ∷ 80 ∷ 104 ∷ []

-- the first subchannel of each group
abbrev pub subchannel_starts : List ℕ
subchannel_starts = 0 ∷ 12 ∷ 20 ∷ 32 ∷ 40 ∷ 52 ∷ []

-- the group whose run of numbers holds x, for six runs that start at the numbers of a list; x is below the last one's end
unfoldable pub group_in : (starts : List ℕ) (x : ℕ) → ℕ
group_in starts x =
    pick (ltb x (entry starts 1)) 0
    (pick (ltb x (entry starts 2)) 1
    (pick (ltb x (entry starts 3)) 2
    (pick (ltb x (entry starts 4)) 3
    (pick (ltb x (entry starts 5)) 4 5))))

-- M, the number of subchannels of group g
unfoldable pub group_size : (g : ℕ) → ℕ
group_size g = pick (eqb (g % 2) 0) 12 8

-- what a group of 12 subchannels has and what one of 8 has; there is no other
unfoldable pub of_size : (size : ℕ) (twelve eight : List ℕ) → List ℕ
of_size size twelve eight = pick (eqb size 12) twelve (pick (eqb size 8) eight [])

-- B of a group of a size
unfoldable pub base_of : (size i : ℕ) → ℕ
base_of size i = entry (of_size size base12 base8) i

-- The reverse: where in B a number stands.
unfoldable pub base_inverse : (size x : ℕ) → ℕ
base_inverse size x = entry (of_size size base12_inverse base8_inverse) x
