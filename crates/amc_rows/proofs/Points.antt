-- The points of a bin: their indices stand side by side in the table of a slot.
use Rattle.base.proofs.Prelude.{◌≡◌, sym, ap, ◌∙◌, subst, List, ℕ, ◌+◌, ◌-◌, ◌*◌, ◌/◌, ◌%◌, ◌<◌, ◌≤◌, arith, length, set, replicate, length-set}
use Rattle.base.proofs.Prelude.{length-replicate}
use native.Mathlib.Nat.{div-le_self}
use lib.Seq.{get_or-set_same, get_or-set_other}
use borrow.Author.Count.{below_none, below_more}
use Rattle.base.specs.{Steps.entry, Model.Starts}
use Rattle.carriers.specs.Model.{address_number}
use Rattle.amc.specs.{declared.Shape.Shape, Map.{index_of, address_of}, Model.{IsShape, sequence_place}}
use Rattle.amc.proofs.{Law.{index_below, index_traffic, traffic_index}, Parts.{by_six, rest_six}, Sequence.{traffic_at, sequence_place_lt}}

-- Before turn i of a loop over the entries of P: the index of each v that the turns before had is written.
pub record Indexed (cell : ℕ) (l : List ℕ) (i : ℕ) : Type 0 where
  pub long : length l ≡ 48
  pub entries : (k : ℕ) → k < i → entry l (sequence_place cell k) ≡ index_of cell (sequence_place cell k)

pub indexed_none : (cell : ℕ) → Indexed cell (replicate 48 0) 0
indexed_none cell = record { long = length-replicate {A = ℕ} 48 0; entries = below_none _ }

-- entries of P and places v are one for one, so what is written stays, and all are written
module _ (cell : ℕ) (range : cell < 2352) where
  index_at : (i : ℕ) → i < 48 → (i + (48 - cell % 48)) % 48 ≡ index_of cell (sequence_place cell i)
  index_at i h =
      let j = (i + (48 - cell % 48)) % 48 in
      let e : (j + cell % 48) % 48 ≡ i = omega arith in
      sym (ap (λ (k : ℕ). index_of cell (sequence_place cell k)) (sym e) ∙ ap (index_of cell) (traffic_at cell j) ∙ index_traffic cell range j (omega arith))

  place_differs : (k i : ℕ) → k < i → i < 48 → sequence_place cell k ≡ sequence_place cell i → ⊥
  place_differs k i less h e =
      let same : (k + (48 - cell % 48)) % 48 ≡ (i + (48 - cell % 48)) % 48 = index_at k (omega arith) ∙ ap (index_of cell) e ∙ sym (index_at i h) in
      omega arith

  pub indexed_next : {l : List ℕ} {i : ℕ} → Indexed cell l i → i < 48 → (v x : ℕ) → v ≡ sequence_place cell i → x ≡ (i + (48 - cell % 48)) % 48 → Indexed cell (set l v x) (i + 1)
  indexed_next {l = l} {i = i} w h v x ev ex =
      rw ev
      (record {
        long = length-set l _ x ∙ w.long;
        entries = below_more (λ k. entry (set l (sequence_place cell i) x) (sequence_place cell k) ≡ index_of cell (sequence_place cell k)) i
            (λ k k_lt. get_or-set_other l (sequence_place cell i) (sequence_place cell k) x 0 (place_differs k i k_lt h) ∙ w.entries k k_lt)
            (get_or-set_same l _ x 0 (omega (arith, w.long, sequence_place_lt cell i range h)) ∙ ex ∙ index_at i h);
      })

  pub indexed_all : {l : List ℕ} {i : ℕ} → Indexed cell l i → 48 ≤ i → Starts 48 (index_of cell) l
  indexed_all {l = l} w h v v-lt =
      let k = (index_of cell v + cell % 48) % 48 in
      let e : sequence_place cell k ≡ v = traffic_at cell (index_of cell v) ∙ traffic_index cell range v v-lt in
      subst (λ (u : ℕ). entry l u ≡ index_of cell u) e (w.entries k (omega arith))

-- the first traffic place of bin i in a symbol of the slot, as the code finds it
abbrev pub first_place : (shape : Shape) (o i : ℕ) → ℕ
first_place shape o i = (o * shape.bins + (i - i * shape.symbols / 6 * shape.bins)) * 8

module _ (shape : Shape) (six : IsShape shape) (o i : ℕ) where
  pub subchannel_le : i * shape.symbols / 6 ≤ i
  subchannel_le = rw (by_six shape six i) (div-le_self i shape.bins)

  pub places_lt : o < shape.symbols → first_place shape o i + 7 < 48
  places_lt h =
      let bin : (i * 8 + 7) / 8 ≡ i = omega arith in
      let last : (i * 8 + 7) % 8 ≡ 7 = omega arith in
      rw (bin, last) at (index_below shape six o (i * 8 + 7) (i * shape.symbols / 6) h (rw bin (by_six shape six i)))

  pub point_number : (cell j : ℕ) → j < 8 → i * shape.symbols / 6 * 48 + index_of cell (first_place shape o i + j) ≡ address_number (address_of shape cell o (i * 8 + j))
  unfolding address_of
  point_number cell j h =
      let bin : (i * 8 + j) / 8 ≡ i = omega arith in
      let place : (i * 8 + j) % 8 ≡ j = omega arith in
      rw (bin, place, rest_six shape six i _ (by_six shape six i), by_six shape six i)
