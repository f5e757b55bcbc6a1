-- The constant table of FUSC, as document 000 prints it, and its inverse.
use Rattle.std.specs.Prelude.{List, [], ◌∷◌, ℕ}

-- Document 02, wish 8: "the sequence of document 000", the basic permutation sequence of 32 entries.
abbrev pub sequence : List ℕ
sequence = 3 ∷ 18 ∷ 2 ∷ 8 ∷ 16 ∷ 10 ∷ 11 ∷ 15 ∷ 26 ∷ 22 ∷ 6 ∷ 9 ∷ 27 ∷ 20 ∷ 25 ∷ 1 ∷ 29 ∷ 7 ∷ 21 ∷ 5 ∷ 28 ∷ 31 ∷ 23 ∷ 17 ∷ 4 ∷ 24 ∷ 0 ∷ 13 ∷ 12 ∷ 19 ∷ 14 ∷ 30 ∷ []

-- The reverse: where in the sequence a number stands.
abbrev pub sequence_inverse : List ℕ
sequence_inverse = 26 ∷ 15 ∷ 2 ∷ 0 ∷ 24 ∷ 19 ∷ 10 ∷ 17 ∷ 3 ∷ 11 ∷ 5 ∷ 6 ∷ 28 ∷ 27 ∷ 30 ∷ 7 ∷ 4 ∷ 23 ∷ 1 ∷ 29 ∷ 13 ∷ 18 ∷ 9 ∷ 22 ∷ 25 ∷ 14 ∷ 8 ∷ 12 ∷ 20 ∷ 16 ∷ 31 ∷ 21 ∷ []
