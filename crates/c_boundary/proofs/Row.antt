-- What a row comes to at the C boundary.
use Rattle.base.proofs.Prelude.{◌≡◌, List, ℕ, eq-eqb, ne_eqb}
use Rattle.c_boundary.specs.Row.{row_out}

module _ (refusal : ℕ) (new old : List ℕ) where
  pub row_no : (refusal ≡ 0 → ⊥) → record { refusal = refusal; row = old } ≡ row_out refusal new old
  unfolding row_out
  row_no h = rw (ne_eqb refusal 0 h)

  pub row_yes : refusal ≡ 0 → record { refusal = 0; row = new } ≡ row_out refusal new old
  unfolding row_out
  row_yes h = rw (eq-eqb refusal 0 h)
