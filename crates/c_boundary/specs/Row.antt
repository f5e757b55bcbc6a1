-- The outcome of a call that writes a row: the returned number and the caller's row as it is then.
use Rattle.std.specs.Prelude.{List, ℕ, eqb}
use Rattle.base.specs.Choice.{pick}

pub record RowOut : Type 0 where
  pub refusal : ℕ
  pub row : List ℕ

-- 0 with the row anew, or the refusal's number and the row as it was
unfoldable pub row_out : (refusal : ℕ) (new old : List ℕ) → RowOut
row_out refusal new old = pick (eqb refusal 0) (record { refusal = 0; row = new }) (record { refusal = refusal; row = old })
