-- Groups of optional FUSC: where a subchannel's point lies in group k, and that two are on one carrier where their elements of the field are the same.
use Rattle.base.proofs.Prelude.{◌≡◌, sym, ap, ap₂, ◌∙◌, ℕ, ◌+◌, ◌*◌, ◌<◌, arith, digits_lt, lit<, eqb, eqb-true, eqb-false, eq-eqb, ne_eqb}
use Rattle.base.proofs.{Test.cases, Perm.rotation}
use lib.{Bits.bit_xor, IntN.ℤ}
use Rattle.carriers.specs.{Band.{bin_band, carrier_of, used_of}, Bin.{used_of_data, data_of_used}}
use Rattle.carriers.proofs.{Guards.{bin-band, used-carrier}, Bin.{data_used, used_lt}}
use Rattle.centre.specs.Centre.{from_dc, on_row}
use Rattle.centre.proofs.Law.{centre_law}
use Rattle.ofusc.specs.{Width.Width, Map.{group_of, cell_term, data_number}}
use Rattle.ofusc_rows.specs.Model.{cell_number, group_number}
use Rattle.ofusc.proofs.{Sequence.pos, Law.element_lt}
use Rattle.ofusc_rows.proofs.Row.{with_subchannel}
use Rattle.modes.specs.{Setup.setup_with, Mode.{width_of, symbols_of, band_of}}
use Rattle.formulas.specs.Formula.{spot_of}
use Rattle.modes.proofs.Accept.{width_is}
use Rattle.collision.specs.Collision.{index_in, column_in, ofusc_hit}

-- two tests agree where the one equation holds just when the other does
pub same_test : (p q x y : ℕ) → (p ≡ q → x ≡ y) → (x ≡ y → p ≡ q) → eqb p q ≡ eqb x y
same_test p q x y f g =
    cases (eqb x y)
    (λ e. eq-eqb p q (g (eqb-true x y e)) ∙ sym e)
    (λ e. ne_eqb p q (λ h. eqb-false x y e (f h)) ∙ sym e)

-- the carrier of data number d in symbol y, and its column
abbrev column_at : ℕ → ℕ → ℕ → ℕ
column_at n y d = carrier_of (bin_band n) (used_of_data y d)

abbrev pub carrier_at : ℕ → ℕ → ℕ → ℤ
carrier_at n y d = from_dc (64 * n) (column_at n y d)

-- it has no other data number
abbrev pub number_of : ℕ → ℕ → ℤ → ℕ
number_of n y carrier = data_of_used y (used_of (bin_band n) (on_row (64 * n) carrier))

pub number_at : (n y d : ℕ) → 0 < n → d < 48 * n → number_of n y (carrier_at n y d) ≡ d
number_at n y d p h =
    ap (λ (column : ℕ). data_of_used y (used_of (bin_band n) column)) ((centre_law (64 * n) (omega arith)).back (column_at n y d))
    ∙ ap (data_of_used y) (used-carrier (bin_band n) (64 * n) (bin-band n p) (used_of_data y d) (used_lt y d n h)) ∙ data_used y d

pub same_number : (n y d e : ℕ) → 0 < n → d < 48 * n → e < 48 * n → carrier_at n y d ≡ carrier_at n y e → d ≡ e
same_number n y d e p hd he q = sym (number_at n y d p hd) ∙ ap (number_of n y) q ∙ number_at n y e p he

-- the only symbol of a slot
pub one_symbol : (slot : ℕ) → slot * 1 + 0 ≡ slot
one_symbol slot = omega arith

-- index (k-23s) mod 48 of subchannel s is in group k
group-in : (s k : ℕ) → k < 48 → group_of s (index_in s k) ≡ k
unfolding group_of index_in
group-in s k h = (rotation 48 (23 * s) (lit< tt)).forth k h

module _ {n : ℕ} (w : Width n) (k : ℕ) (h : k < 48) where
  -- the element of subchannel s in group k
  abbrev pub element : ℕ → ℕ → ℕ
  element cell s = bit_xor s (cell_term n cell k)

  pub number_in : (cell s : ℕ) → data_number n cell s (index_in s k) ≡ k * n + element cell s
  unfolding data_number
  number_in cell s = ap (λ (g : ℕ). g * n + bit_xor s (cell_term n cell g)) (group-in s k h)

  column-in : (cell slot s : ℕ) → column_in (setup_with 2 (64 * n) cell) slot s k ≡ column_at n slot (k * n + element cell s)
  unfolding column_in spot_of symbols_of width_of band_of
  column-in cell slot s = rw (width_is n, number_in cell s, one_symbol slot)

  -- the carriers of a group are different
  pub same_element : (slot x y : ℕ) → x < n → y < n → carrier_at n slot (k * n + x) ≡ carrier_at n slot (k * n + y) → x ≡ y
  same_element slot x y hx hy e =
      let d = same_number n slot (k * n + x) (k * n + y) (pos w) (digits_lt h hx) (digits_lt h hy) e in
      omega arith

  -- THE COMPARISON INSIDE THE FIELD: two subchannels have the same carrier in group k just where they have the same element
  pub hit_is : (a s b t : ℕ) → s < n → t < n → ofusc_hit (64 * n) a s b t k ≡ eqb (element a s) (element b t)
  unfolding ofusc_hit
  hit_is a s b t hs ht =
      ap₂ eqb (column-in a 0 s) (column-in b 0 t)
      ∙ same_test _ _ _ _
      (λ e. same_element 0 (element a s) (element b t) (element_lt w a s k hs) (element_lt w b t k ht) (ap (from_dc (64 * n)) e))
      (ap (λ (x : ℕ). column_at n 0 (k * n + x)))

  -- so it is enough to compare the data numbers
  pub number_hit : (a s b t : ℕ) → s < n → t < n → eqb (bit_xor (cell_number n a k) s) (bit_xor (cell_number n b k) t) ≡ ofusc_hit (64 * n) a s b t k
  unfolding group_number
  number_hit a s b t hs ht =
      ap₂ eqb (with_subchannel w a s k hs) (with_subchannel w b t k ht)
      ∙ same_test _ _ (element a s) (element b t) (λ e. omega arith) (ap (λ (x : ℕ). k * n + x))
      ∙ sym (hit_is a s b t hs ht)
