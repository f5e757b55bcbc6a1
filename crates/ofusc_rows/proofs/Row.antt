-- A row of data numbers: the subchannel is added to what the cell fixes.
use Rattle.base.proofs.Prelude.{◌≡◌, refl, ap, ap₂, ◌∙◌, subst⁻¹, List, ℕ, ◌+◌, ◌-◌, ◌*◌, ◌/◌, ◌%◌, ◌<◌, ◌≤◌, arith, digits_lt}
use Rattle.base.proofs.Tabulate.{Written, written_none, written_next, written_starts, written_all}
use native.Mathlib.Nat.{add-mul, add-mod_right}
use lib.Bits.{bit_xor, xor_block, xor_zero_r, xor_comm}
use Rattle.base.specs.Steps.{entry}
use Rattle.ofusc.specs.{Width.Width, Map.{group_of, term, cell_term, data_number}}
use Rattle.ofusc_rows.specs.Model.{cell_number, group_number}
use Rattle.ofusc.proofs.{Sequence.{size, turn_pos, cell_term_lt, cell_term_as}, Tables.{rows1, rows2, cell_term_is}}
use Prim.Native.Nat.{◌^◌}

module _ {n : ℕ} (w : Width n) (cell : ℕ) where
  pub cell_number_lt : (k : ℕ) → k < 48 → cell_number n cell k < 1536
  unfolding cell_number
  cell_number_lt k h = omega (arith, digits_lt h (cell_term_lt w cell k), (size w).most)

  -- N-1 groups on it is the same but for their numbers
  cell_again : (k : ℕ) → cell_number n cell k + (n - 1) * n ≡ cell_number n cell (k + (n - 1))
  unfolding cell_number
  cell_again k = rw (cell_term_as n cell (k + (n - 1)) k (add-mod_right k (n - 1)), add-mul) (omega arith)

  -- the entry of group k, from the entry N-1 groups before it
  pub again_entry : (l : List ℕ) (k : ℕ) → n - 1 ≤ k → k < 48 → Written 48 (cell_number n cell) l k
      → (entry l (k - (n - 1)) + (n - 1) * n ≡ cell_number n cell k) × (entry l (k - (n - 1)) + (n - 1) * n < 1536)
  again_entry l k le h written =
      let back : k - (n - 1) + (n - 1) ≡ k = omega arith in
      rw (written.entries (k - (n - 1)) (omega (arith, turn_pos w)), cell_again (k - (n - 1)), back) (refl, cell_number_lt k h)

  -- the entry of group k, from both terms by the code's tables
  pub cell_entry : (k c₁ c₂ a b : ℕ) → k < n - 1 → c₁ ≡ cell % n → c₂ ≡ cell / n
      → a ≡ term (λ i. entry rows1 (n + i)) n c₁ k → b ≡ term (λ i. entry rows2 (n + i)) n c₂ k
      → (k * n + bit_xor a b ≡ cell_number n cell k) × (k * n + bit_xor a b < 1536)
  unfolding cell_number
  cell_entry k c₁ c₂ a b h e₁ e₂ ea eb = rw (ea, eb, e₁, e₂, cell_term_is w cell k) (refl, cell_number_lt k (omega (arith, (size w).most)))

  -- N is a power of two, so the element is the number's low bits
  pub with_subchannel : (s k : ℕ) → s < n → bit_xor (cell_number n cell k) s ≡ group_number n cell s k
  unfolding cell_number group_number
  with_subchannel s k h =
      subst⁻¹ (λ (p : ℕ). cell_term n cell k < p → s < p → bit_xor (k * p + cell_term n cell k) s ≡ k * p + bit_xor s (cell_term n cell k)) (size w).is
      (λ lm ls. ap (bit_xor (k * 2 ^ (size w).bits + cell_term n cell k)) (omega arith)
      ∙ xor_block (size w).bits k 0 (cell_term n cell k) s lm ls
      ∙ ap₂ (λ (a b : ℕ). a * 2 ^ (size w).bits + b) (xor_zero_r k) (xor_comm (cell_term n cell k) s))
      (cell_term_lt w cell k) h

-- index m is in group (m+23s) mod 48
pub number_in_group : (n cell s m : ℕ) → group_number n cell s ((m + 23 * s % 48) % 48) ≡ data_number n cell s m
unfolding data_number group_of group_number
number_in_group n cell s m = ap (λ (k : ℕ). k * n + bit_xor s (cell_term n cell k)) (omega arith)

-- a loop that writes a row from its first entry on
pub ruleset written = (written_none, written_next, written_starts, written_all)
