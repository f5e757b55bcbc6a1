-- The constant tables of PUSC downlink, as document 003 prints them (table 308), and their inverses.
use Rattle.std.specs.Prelude.{List, [], ◌∷◌, ℕ}

-- Document 01, "Partial usage": R the renumbering sequence of 120 entries.
abbrev pub renumbering : List ℕ
renumbering = 6 ∷ 108 ∷ 37 ∷ 81 ∷ 31 ∷ 100 ∷ 42 ∷ 116 ∷ 32 ∷ 107 ∷ 30 ∷ 93 ∷ 54 ∷ 78 ∷ 10 ∷ 75 ∷ 50 ∷ 111 ∷ 58 ∷ 106 ∷ 23 ∷ 105 ∷ 16 ∷ 117 ∷ 39 ∷ 95 ∷ 7 ∷ 115 ∷ 25 ∷ 119 ∷ 53 ∷ 71 ∷ 22 ∷ 98 ∷ 28 ∷ 79 ∷ 17 ∷ 63 ∷ 27 ∷ 72 ∷ 29 ∷ 86 ∷ 5 ∷ 101 ∷ 49 ∷ 104 ∷ 9 ∷ 68 ∷ 1 ∷ 73 ∷ 36 ∷ 74 ∷ 43 ∷ 62 ∷ 20 ∷ 84 ∷ 52 ∷ 64 ∷ 34 ∷ 60 ∷ 66 ∷ 48 ∷ 97 ∷ 21 ∷ 91 ∷ 40 ∷ 102 ∷ 56 ∷ 92 ∷ 47 ∷ 90 ∷ 33 ∷ 114 ∷ 18 ∷ 70 ∷ 15 ∷ 110 ∷ 51 ∷ 118 ∷ 46 ∷ 83 ∷ 45 ∷ 76 ∷ 57 ∷ 99 ∷ 35 ∷ 67 ∷ 55 ∷ 85 ∷ 59 ∷ 113 ∷ 11 ∷ 82 ∷ 38 ∷ 88 ∷ 19 ∷ 77 ∷ 3 ∷ 87 ∷ 12 ∷ 89 ∷ 26 ∷ 65 ∷ 41 ∷ 109 ∷ 44 ∷ 69 ∷ 8 ∷ 61 ∷ 13 ∷ 96 ∷ 14 ∷ 103 ∷ 2 ∷ 80 ∷ 24 ∷ 112 ∷ 4 ∷ 94 ∷ 0 ∷ []

-- The reverse: where in R a number stands.
abbrev pub renumbering_inverse : List ℕ
renumbering_inverse = 119 ∷ 48 ∷ 113 ∷ 97 ∷ 117 ∷ 42 ∷ 0 ∷ 26 ∷ 107 ∷ 46 ∷ 14 ∷ 91 ∷ 99 ∷ 109 ∷ 111 ∷ 75 ∷ 22 ∷ 36 ∷ 73 ∷ 95 ∷ 54 ∷ 63 ∷ 32 ∷ 20 ∷ 115 ∷ 28 ∷ 101 ∷ 38 ∷ 34 ∷ 40 ∷ 10 ∷ 4 ∷ 8 ∷ 71 ∷ 58 ∷ 85 ∷ 50 ∷ 2 ∷ 93 ∷ 24 ∷ 65 ∷ 103 ∷ 6 ∷ 52 ∷ 105 ∷ 81 ∷ 79 ∷ 69 ∷ 61 ∷ 44 ∷ 16 ∷ 77 ∷ 56 ∷ 30 ∷ 12 ∷ 87 ∷ 67 ∷ 83 ∷ 18 ∷ 89 ∷ 59 ∷ 108 ∷ 53 ∷ 37 ∷ 57 ∷ 102 ∷ 60 ∷ 86 ∷ 47 ∷ 106 ∷ 74 ∷ 31 ∷ 39 ∷ 49 ∷ 51 ∷ 15 ∷ 82 ∷ 96 ∷ 13 ∷ 35 ∷ 114 ∷ 3 ∷ 92 ∷ 80 ∷ 55 ∷ 88 ∷ 41 ∷ 98 ∷ 94 ∷ 100 ∷ 70 ∷ 64 ∷ 68 ∷ 11 ∷ 118 ∷ 25 ∷ 110 ∷ 62 ∷ 33 ∷ 84 ∷ 5 ∷ 43 ∷ 66 ∷ 112 ∷ 45 ∷ 21 ∷ 19 ∷ 9 ∷ 1 ∷ 104 ∷ 76 ∷ 17 ∷ 116 ∷ 90 ∷ 72 ∷ 27 ∷ 7 ∷ 23 ∷ 78 ∷ 29 ∷ []

-- Document 01: B the base of 12 or 8.
abbrev pub base12 : List ℕ
base12 = 6 ∷ 9 ∷ 4 ∷ 8 ∷ 10 ∷ 11 ∷ 5 ∷ 2 ∷ 7 ∷ 3 ∷ 1 ∷ 0 ∷ []

-- The reverse: where in the base of 12 a number stands.
abbrev pub base12_inverse : List ℕ
base12_inverse = 11 ∷ 10 ∷ 7 ∷ 9 ∷ 2 ∷ 6 ∷ 0 ∷ 8 ∷ 3 ∷ 1 ∷ 4 ∷ 5 ∷ []

abbrev pub base8 : List ℕ
base8 = 7 ∷ 4 ∷ 0 ∷ 2 ∷ 1 ∷ 5 ∷ 3 ∷ 6 ∷ []

-- The reverse: where in the base of 8 a number stands.
abbrev pub base8_inverse : List ℕ
base8_inverse = 2 ∷ 4 ∷ 3 ∷ 6 ∷ 1 ∷ 5 ∷ 7 ∷ 0 ∷ []
