-- Optional FUSC numbers the data carriers of a symbol one for one: the group is a rotation of the index, the place in the group an exclusive or, and both are digits of the data number.
use Rattle.base.proofs.Prelude.{◌≡◌, sym, ℕ, ◌*◌, ◌/◌, ◌%◌, ◌<◌, mod-lt, div-add-mod', div-lt_iff_lt-mul, arith, digits_div, digits_mod, digits_lt}
use Rattle.base.proofs.Prelude.{lit<}
use Rattle.base.proofs.{Perm.rotation, Xor.xor_twice}
use lib.{Arith.lt-one, Bits.bit_xor}
use Rattle.carriers.specs.{Bin.in_only_symbol, Law.NumberLaw}
use Rattle.ofusc.specs.{Width.Width, Map.{group_of, cell_term, data_number, address_of}}
use Rattle.ofusc.proofs.Sequence.{pos, size, sum_lt, cell_term_lt}

pub group_lt : (s m : ℕ) → group_of s m < 48
unfolding group_of
group_lt s m = omega arith

-- a group starts below 1536, the number of data carriers at the largest size
pub start_lt : {n : ℕ} → Width n → (k : ℕ) → k < 48 → k * n < 1536
start_lt w k h = omega (arith, digits_lt h (pos w), (size w).most)

module _ {n : ℕ} (w : Width n) (cell : ℕ) where
  -- the element of subchannel s in group k
  pub element_lt : (s k : ℕ) → s < n → bit_xor s (cell_term n cell k) < n
  element_lt s k h = sum_lt w s (cell_term n cell k) h (cell_term_lt w cell k)

  -- the digits of a data number
  pub group_digit : (s m : ℕ) → s < n → data_number n cell s m / n ≡ group_of s m
  unfolding data_number
  group_digit s m h = digits_div (group_of s m) (element_lt s (group_of s m) h)

  element_digit : (s m : ℕ) → s < n → data_number n cell s m % n ≡ bit_xor s (cell_term n cell (group_of s m))
  unfolding data_number
  element_digit s m h = digits_mod (group_of s m) (element_lt s (group_of s m) h)

  found : (s m : ℕ) → s < n → m < 48 → address_of n cell (data_number n cell s m) ≡ record { subchannel = s; index = m }
  unfolding address_of group_of
  found s m hs hm =
      rw (group_digit s m hs, element_digit s m hs, xor_twice s (cell_term n cell (group_of s m)), (rotation 48 (23 * s) (lit< tt)).back m hm)

  pub subchannel_lt : (d : ℕ) → bit_xor (d % n) (cell_term n cell (d / n)) < n
  subchannel_lt d = element_lt (d % n) (d / n) (mod-lt d (pos w))

  placed : (d : ℕ) → d < 48 * n → data_number n cell (address_of n cell d).subchannel (address_of n cell d).index ≡ d
  unfolding data_number address_of group_of
  placed d h =
      let s = bit_xor (d % n) (cell_term n cell (d / n)) in
      rw ((rotation 48 (23 * s) (lit< tt)).forth (d / n) ((div-lt_iff_lt-mul (pos w)).1 h), xor_twice (d % n) (cell_term n cell (d / n)), div-add-mod' d n)

  pub law : NumberLaw 1 n (48 * n) (λ s m. in_only_symbol (data_number n cell s m)) (λ o d. address_of n cell d)
  unfolding data_number address_of
  law =
      record {
        offset_lt = λ s m hs hm. lit< tt;
        number_lt = λ s m hs hm. digits_lt (group_lt s m) (element_lt s (group_of s m) hs);
        back = found;
        names = λ o d ho hd. record { subchannel_lt = subchannel_lt d; index_lt = omega arith };
        forth = λ o d ho hd. λ i. record { offset = sym (lt-one ho) i; number = placed d hd i };
      }
