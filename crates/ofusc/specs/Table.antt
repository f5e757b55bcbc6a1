-- Document 002, table 6, "Basic permutation sequences for diversity subcarrier allocations", as printed: a row for each N, none for another number.
use Rattle.std.specs.Prelude.{List, [], ◌∷◌, ℕ, eqb}
use Rattle.base.specs.Choice.{pick}

-- P1
unfoldable pub printed1 : (n : ℕ) → List ℕ
printed1 n =
    pick (eqb n 4) (1 ∷ 2 ∷ 3 ∷ [])
    (pick (eqb n 8) (1 ∷ 2 ∷ 4 ∷ 3 ∷ 6 ∷ 7 ∷ 5 ∷ [])
    (pick (eqb n 16) (1 ∷ 2 ∷ 4 ∷ 8 ∷ 3 ∷ 6 ∷ 12 ∷ 11 ∷ 5 ∷ 10 ∷ 7 ∷ 14 ∷ 15 ∷ 13 ∷ 9 ∷ [])
    (pick (eqb n 32) (1 ∷ 2 ∷ 4 ∷ 8 ∷ 16 ∷ 5 ∷ 10 ∷ 20 ∷ 13 ∷ 26 ∷ 17 ∷ 7 ∷ 14 ∷ 28 ∷ 29 ∷ 31 ∷ 27 ∷ 19 ∷ 3 ∷ 6 ∷ 12 ∷ 24 ∷ 21 ∷ 15 ∷ 30 ∷ 25 ∷ 23 ∷ 11 ∷ 22 ∷ 9 ∷ 18 ∷ []) [])))

-- P2
unfoldable pub printed2 : (n : ℕ) → List ℕ
printed2 n =
    pick (eqb n 4) (1 ∷ 3 ∷ 2 ∷ [])
    (pick (eqb n 8) (1 ∷ 4 ∷ 6 ∷ 5 ∷ 2 ∷ 3 ∷ 7 ∷ [])
    (pick (eqb n 16) (1 ∷ 4 ∷ 3 ∷ 12 ∷ 5 ∷ 7 ∷ 15 ∷ 9 ∷ 2 ∷ 8 ∷ 6 ∷ 11 ∷ 10 ∷ 14 ∷ 13 ∷ [])
    (pick (eqb n 32) (1 ∷ 4 ∷ 16 ∷ 10 ∷ 13 ∷ 17 ∷ 14 ∷ 29 ∷ 27 ∷ 3 ∷ 12 ∷ 21 ∷ 30 ∷ 23 ∷ 22 ∷ 18 ∷ 2 ∷ 8 ∷ 5 ∷ 20 ∷ 26 ∷ 7 ∷ 28 ∷ 31 ∷ 19 ∷ 6 ∷ 24 ∷ 15 ∷ 25 ∷ 11 ∷ 9 ∷ []) [])))
