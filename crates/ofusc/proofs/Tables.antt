-- The tables of the code hold document 002's rows: a test computed over each table.
use Rattle.base.proofs.{Prelude.{◌≡◌, sym, ap₂, ◌∙◌, Bool, List, [], ◌∷◌, ℕ, ◌+◌, ◌-◌, ◌/◌, ◌%◌, ◌<◌, T, eqb, eqb→eq}, Table.{all, all_at}}
use lib.Bits.{bit_xor}
use Rattle.base.specs.Steps.{entry}
use Rattle.ofusc.specs.{Width.Width, Field.{p1, p2}, Table.{printed1, printed2}, Map.{term, cell_term}}
use Rattle.ofusc.proofs.Sequence.{at_width, sequence_law, term_as}

-- the code's tables, in which the row of N starts at place N
abbrev pub rows1 : List ℕ
rows1 = 0 ∷ 0 ∷ 0 ∷ 0 ∷ 1 ∷ 2 ∷ 3 ∷ 0 ∷ 1 ∷ 2 ∷ 4 ∷ 3 ∷ 6 ∷ 7 ∷ 5 ∷ 0 ∷ 1 ∷ 2 ∷ 4 ∷ 8 ∷ 3 ∷ 6 ∷ 12 ∷ 11 ∷ 5 ∷ 10 ∷ 7 ∷ 14 ∷ 15 ∷ 13 ∷ 9 ∷ 0 ∷ 1 ∷ 2 ∷ 4 ∷ 8 ∷ 16 ∷ 5 ∷ 10 ∷ 20 ∷ 13 ∷ 26 ∷ 17 ∷ 7 ∷ 14 ∷ 28 ∷ 29 ∷ 31 ∷ 27 ∷ 19 ∷ 3 ∷ 6 ∷ 12 ∷ 24 ∷ 21 ∷ 15 ∷ 30 ∷ 25 ∷ 23 ∷ 11 ∷ 22 ∷ 9 ∷ 18 ∷ []

abbrev pub rows2 : List ℕ
rows2 = 0 ∷ 0 ∷ 0 ∷ 0 ∷ 1 ∷ 3 ∷ 2 ∷ 0 ∷ 1 ∷ 4 ∷ 6 ∷ 5 ∷ 2 ∷ 3 ∷ 7 ∷ 0 ∷ 1 ∷ 4 ∷ 3 ∷ 12 ∷ 5 ∷ 7 ∷ 15 ∷ 9 ∷ 2 ∷ 8 ∷ 6 ∷ 11 ∷ 10 ∷ 14 ∷ 13 ∷ 0 ∷ 1 ∷ 4 ∷ 16 ∷ 10 ∷ 13 ∷ 17 ∷ 14 ∷ 29 ∷ 27 ∷ 3 ∷ 12 ∷ 21 ∷ 30 ∷ 23 ∷ 22 ∷ 18 ∷ 2 ∷ 8 ∷ 5 ∷ 20 ∷ 26 ∷ 7 ∷ 28 ∷ 31 ∷ 19 ∷ 6 ∷ 24 ∷ 15 ∷ 25 ∷ 11 ∷ 9 ∷ []

-- the rows of such a table are document 002's
module _ (printed : ℕ → List ℕ) (rows : List ℕ) where
  abbrev row : ℕ → ℕ → Bool
  row n i = eqb (entry rows (n + i)) (entry (printed n) i)

  abbrev rows_of : ℕ → Bool
  rows_of n = all (row n) (n - 1)

  rows_are : T (rows_of 4) × T (rows_of 8) × T (rows_of 16) × T (rows_of 32) → {n : ℕ} → Width n → (i : ℕ) → i < n - 1 → entry rows (n + i) ≡ entry (printed n) i
  rows_are tests {n} w i h = eqb→eq _ _ (all_at (row n) (n - 1) (at_width rows_of tests w) i h)

-- the cell's term by the code's tables
pub cell_term_is : {n : ℕ} → Width n → (cell k : ℕ)
    → bit_xor (term (λ i. entry rows1 (n + i)) n (cell % n) k) (term (λ i. entry rows2 (n + i)) n (cell / n) k) ≡ cell_term n cell k
unfolding cell_term printed1 printed2
cell_term_is {n} w cell k =
    ap₂ bit_xor
    (term_as w _ (p1 n) (λ i h. rows_are printed1 rows1 (tt, tt, tt, tt) w i h ∙ sym (sequence_law.p1_is w i h)) (cell % n) k)
    (term_as w _ (p2 n) (λ i h. rows_are printed2 rows2 (tt, tt, tt, tt) w i h ∙ sym (sequence_law.p2_is w i h)) (cell / n) k)
