-- The tile permutation of PUSC uplink, as document 000 prints it, and its inverse.
use Rattle.std.specs.Prelude.{List, [], ◌∷◌, ℕ}

-- Document 01, "Partial usage": Q is the 70-entry tile permutation, starting 6, 48, 58, 57, 50.
abbrev pub tile_permutation : List ℕ
tile_permutation = 6 ∷ 48 ∷ 58 ∷ 57 ∷ 50 ∷ 1 ∷ 13 ∷ 26 ∷ 46 ∷ 44 ∷ 30 ∷ 3 ∷ 27 ∷ 53 ∷ 22 ∷ 18 ∷ 61 ∷ 7 ∷ 55 ∷ 36 ∷ 45 ∷ 37 ∷ 52 ∷ 15 ∷ 40 ∷ 2 ∷ 20 ∷ 4 ∷ 34 ∷ 31 ∷ 10 ∷ 5 ∷ 41 ∷ 9 ∷ 69 ∷ 63 ∷ 21 ∷ 11 ∷ 12 ∷ 19 ∷ 68 ∷ 56 ∷ 43 ∷ 23 ∷ 25 ∷ 39 ∷ 66 ∷ 42 ∷ 16 ∷ 47 ∷ 51 ∷ 8 ∷ 62 ∷ 14 ∷ 33 ∷ 24 ∷ 32 ∷ 17 ∷ 54 ∷ 29 ∷ 67 ∷ 49 ∷ 65 ∷ 35 ∷ 38 ∷ 59 ∷ 64 ∷ 28 ∷ 60 ∷ 0 ∷ []

-- The reverse: where in Q a number stands.
abbrev pub tile_permutation_inverse : List ℕ
tile_permutation_inverse = 69 ∷ 5 ∷ 25 ∷ 11 ∷ 27 ∷ 31 ∷ 0 ∷ 17 ∷ 51 ∷ 33 ∷ 30 ∷ 37 ∷ 38 ∷ 6 ∷ 53 ∷ 23 ∷ 48 ∷ 57 ∷ 15 ∷ 39 ∷ 26 ∷ 36 ∷ 14 ∷ 43 ∷ 55 ∷ 44 ∷ 7 ∷ 12 ∷ 67 ∷ 59 ∷ 10 ∷ 29 ∷ 56 ∷ 54 ∷ 28 ∷ 63 ∷ 19 ∷ 21 ∷ 64 ∷ 45 ∷ 24 ∷ 32 ∷ 47 ∷ 42 ∷ 9 ∷ 20 ∷ 8 ∷ 49 ∷ 1 ∷ 61 ∷ 4 ∷ 50 ∷ 22 ∷ 13 ∷ 58 ∷ 18 ∷ 41 ∷ 3 ∷ 2 ∷ 65 ∷ 68 ∷ 16 ∷ 52 ∷ 35 ∷ 66 ∷ 62 ∷ 46 ∷ 60 ∷ 40 ∷ 34 ∷ []
