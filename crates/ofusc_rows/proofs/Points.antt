-- The points of a bin: the subchannel comes back out of the data number by what the cell fixes.
use Rattle.base.proofs.Prelude.{◌≡◌, sym, ap, ◌∙◌, subst⁻¹, Bool, true, false, List, ℕ, ◌+◌, ◌*◌, ◌/◌, ◌%◌, ◌<◌, mod-lt, div-add-mod', div-lt_iff_lt-mul}
use Rattle.base.proofs.Prelude.{arith, ltb, ltb-true, ltb-false}
use Rattle.base.proofs.Test.{cases}
use lib.Bits.{bit_xor, xor_block, xor_self}
use Rattle.base.specs.{Choice.pick, Model.Starts, Steps.entry}
use Rattle.carriers.specs.Model.{address_number}
use Rattle.ofusc.specs.{Width.{Width, n4, n8, n16, n32}, Map.{cell_term, address_of}}
use Rattle.ofusc_rows.specs.Model.{cell_number, point_in_group}
use Rattle.ofusc.proofs.{Sequence.{pos, size, cell_term_lt}, Law.subchannel_lt}
use Prim.Native.Nat.{◌^◌}

-- N is a power of two, so what two numbers of a group share goes out
xor_group : {n : ℕ} → Width n → (k a b : ℕ) → a < n → b < n → bit_xor (k * n + a) (k * n + b) ≡ bit_xor a b
xor_group w k a b ha hb =
    subst⁻¹ (λ (p : ℕ). a < p → b < p → bit_xor (k * p + a) (k * p + b) ≡ bit_xor a b) (size w).is
    (λ la lb. xor_block (size w).bits k k a b la lb
    ∙ ap (λ (x : ℕ). x * 2 ^ (size w).bits + bit_xor a b) (xor_self k)
    ∙ omega arith)
    ha hb

-- four data numbers, the first a multiple of four, lie in one group
by_fours : {n : ℕ} → Width n → (d e : ℕ) → d / 4 ≡ e / 4 → d / n ≡ e / n
by_fours n4 d e h = h
by_fours n8 d e h = omega arith
by_fours n16 d e h = omega arith
by_fours n32 d e h = omega arith

-- the group of a data number of a bin, which its half of the bin knows
half_group : {n : ℕ} → Width n → (i j : ℕ) → j < 8 → (i * 8 + j) / n ≡ pick (ltb j 4) (i * 8 / n) ((i * 8 + 4) / n)
half_group w i j h =
    cases (ltb j 4)
    (λ e. rw e (by_fours w _ _ (omega (arith, ltb-true j 4 e))))
    (λ e. rw e (by_fours w _ _ (omega (arith, ltb-false j 4 e))))

pub group_lt : {n : ℕ} → Width n → (d : ℕ) → d < 48 * n → d / n < 48
group_lt w d h = (div-lt_iff_lt-mul (pos w)).1 h

module _ {n : ℕ} (w : Width n) (cell : ℕ) where
  subchannel_is : (d : ℕ) → bit_xor d (cell_number n cell (d / n)) ≡ bit_xor (d % n) (cell_term n cell (d / n))
  unfolding cell_number
  subchannel_is d =
      ap (λ (x : ℕ). bit_xor x (d / n * n + cell_term n cell (d / n))) (sym (div-add-mod' d n))
      ∙ xor_group w (d / n) (d % n) (cell_term n cell (d / n)) (mod-lt d (pos w)) (cell_term_lt w cell (d / n))

  -- point j of bin i, as the code finds it
  pub record Found (i j k fixed : ℕ) : Type 0 where
    pub group_few : k < 48
    pub subchannel_few : bit_xor (i * 8 + j) fixed < 32
    pub number : point_in_group (bit_xor (i * 8 + j) fixed) k ≡ address_number (address_of n cell (i * 8 + j))

  picked : (b : Bool) (k l x y : ℕ) → x ≡ cell_number n cell k → y ≡ cell_number n cell l → pick b x y ≡ cell_number n cell (pick b k l)
  picked true k l x y ex ey = ex
  picked false k l x y ex ey = ey

  pub found : (table : List ℕ) (i j k l : ℕ) → Starts 48 (cell_number n cell) table → i < 6 * n → j < 8 → k ≡ i * 8 / n → l ≡ (i * 8 + 4) / n
      → Found i j (pick (ltb j 4) k l) (pick (ltb j 4) (entry table k) (entry table l))
  unfolding point_in_group address_of
  found table i j k l s hi hj ek el =
      let d = i * 8 + j in
      let first = s k (rw ek (group_lt w (i * 8) (omega arith))) in
      let last = s l (rw el (group_lt w (i * 8 + 4) (omega arith))) in
      let group : pick (ltb j 4) k l ≡ d / n = rw (ek, el) (sym (half_group w i j hj)) in
      let fixed : pick (ltb j 4) (entry table k) (entry table l) ≡ cell_number n cell (d / n) = picked (ltb j 4) k l _ _ first last ∙ ap (cell_number n cell) group in
      record {
        group_few = rw group (group_lt w d (omega arith));
        subchannel_few = rw (fixed, subchannel_is d) (omega (arith, subchannel_lt w cell d, (size w).most));
        number = rw (fixed, group, subchannel_is d);
      }
