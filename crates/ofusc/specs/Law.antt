-- What is claimed of document 002's table 6, at all four N: its rows obey document 01's rule, and placing goes by them. Its proof is `sequence_law`.
use Rattle.std.specs.Prelude.{◌≡◌, ℕ, ◌-◌, ◌*◌, ◌%◌, ◌<◌}
use Rattle.base.specs.Steps.{entry}
use Rattle.base.specs.Tabulate.{tabulate}
use Rattle.ofusc.specs.Width.{Width}
use Rattle.ofusc.specs.Field.{power, p1, p2}
use Rattle.ofusc.specs.Table.{printed1, printed2}

pub record SequenceLaw : Type 0 where
  -- Document 01, "Spread mode": P1 lists the powers of 2 from the zeroth on, N-1 entries.
  pub printed1_is : {n : ℕ} → Width n → printed1 n ≡ tabulate (n - 1) (λ i. power n 2 i)
  -- Document 01, "Spread mode": P2's entry i is P1's entry 2i mod (N-1).
  pub printed2_is : {n : ℕ} → Width n → printed2 n ≡ tabulate (n - 1) (λ i. entry (printed1 n) (2 * i % (n - 1)))
  -- The sequences that placing goes by are the printed ones.
  pub p1_is : {n : ℕ} → Width n → (i : ℕ) → i < n - 1 → p1 n i ≡ entry (printed1 n) i
  pub p2_is : {n : ℕ} → Width n → (i : ℕ) → i < n - 1 → p2 n i ≡ entry (printed2 n) i
