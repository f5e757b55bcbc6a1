-- The data places of bins: a mode over bins meets the law of a slot.
use Rattle.base.proofs.Prelude.{◌≡◌, sym, ap, ap₂, ◌∙◌, false, ℕ, ◌+◌, ◌*◌, ◌/◌, ◌%◌, ◌<◌, ◌≤◌, arith, leb, ne_eqb, eqb-false}
use Rattle.base.proofs.LeaveOut.{unskip_skip, skip_unskip, skip_ne, skip_lt, unskip_lt, skip_step}
use mir.Val.{bool_byte}
use Rattle.base.specs.Steps.{skip, unskip}
use Rattle.carriers.specs.{declared.DataNumber.DataNumber, declared.Address.Address}
use Rattle.carriers.specs.{Bin.{bin_pilot_place, is_bin_pilot, used_of_data, data_of_used, bin_spot}, Law.{SlotLaw, NumberLaw}}

-- a used number as a sum of steps
pub used_by_steps : (y d : ℕ) → d + d / 8 + bool_byte (leb (bin_pilot_place y) (d % 8)) ≡ used_of_data y d
unfolding used_of_data
used_by_steps y d = omega (arith, skip_step (bin_pilot_place y) (d % 8))

pub pilot_place_le : (y : ℕ) → bin_pilot_place y ≤ 8
unfolding bin_pilot_place
pilot_place_le y = omega arith

module _ (y : ℕ) where
  abbrev p : ℕ
  p = bin_pilot_place y

  pilot_le : p ≤ 8
  pilot_le = pilot_place_le y

  module _ (d : ℕ) where
    place_lt : skip p (d % 8) < 9
    place_lt = skip_lt p (d % 8) {n = 8} (omega arith)

    used_bin : used_of_data y d / 9 ≡ d / 8
    unfolding used_of_data
    used_bin = let l = place_lt in omega arith

    used_place : used_of_data y d % 9 ≡ skip p (d % 8)
    unfolding used_of_data
    used_place = let l = place_lt in omega arith

    pub data_used : data_of_used y (used_of_data y d) ≡ d
    unfolding data_of_used
    data_used =
        ap₂ (λ (b w : ℕ). b * 8 + unskip p w) used_bin used_place
        ∙ ap (λ (r : ℕ). d / 8 * 8 + r) (unskip_skip p (d % 8))
        ∙ omega arith

    used_no_pilot : is_bin_pilot y (used_of_data y d) ≡ false
    unfolding is_bin_pilot
    used_no_pilot = ne_eqb (used_of_data y d % 9) p (λ e. skip_ne p (d % 8) (sym used_place ∙ e))

    pub used_lt : (n : ℕ) → d < 48 * n → used_of_data y d < 54 * n
    unfolding used_of_data
    used_lt n h = let l = place_lt in omega arith

  module _ (u : ℕ) (np : is_bin_pilot y u ≡ false) where
    not_p : u % 9 ≡ p → ⊥
    unfolding is_bin_pilot
    not_p = eqb-false (u % 9) p np

    data_place_lt : unskip p (u % 9) < 8
    data_place_lt = unskip_lt p (u % 9) pilot_le not_p (omega arith)

    data_bin : data_of_used y u / 8 ≡ u / 9
    unfolding data_of_used
    data_bin = let l = data_place_lt in omega arith

    data-place : data_of_used y u % 8 ≡ unskip p (u % 9)
    unfolding data_of_used
    data-place = let l = data_place_lt in omega arith

    used-data : used_of_data y (data_of_used y u) ≡ u
    unfolding used_of_data
    used-data =
        ap₂ (λ (b w : ℕ). b * 9 + skip p w) data_bin data-place
        ∙ ap (λ (w : ℕ). u / 9 * 9 + w) (skip_unskip p (u % 9) not_p)
        ∙ omega arith

    pub data_lt : (n : ℕ) → u < 54 * n → data_of_used y u < 48 * n
    unfolding data_of_used
    data_lt n h = let l = data_place_lt in omega arith

-- the pilots counted in, those of each symbol by its number in the zone
pub bin_law : (first n : ℕ) {symbols subchannels : ℕ} {place : ℕ → ℕ → DataNumber} {address : ℕ → ℕ → Address} → NumberLaw symbols subchannels (48 * n) place address
    → SlotLaw symbols subchannels (54 * n) (λ o u. is_bin_pilot (first + o) u) (λ s m. bin_spot first (place s m)) (λ o u. address o (data_of_used (first + o) u))
bin_law first n {place = place} {address = address} law =
    record {
      lies = λ s m hs hm.
          let x = place s m in
          record {
            offset_lt = law.offset_lt s m hs hm;
            used_lt = used_lt (first + x.offset) x.number n (law.number_lt s m hs hm);
            no_pilot = used_no_pilot (first + x.offset) x.number;
          };
      back = λ s m hs hm. ap (address (place s m).offset) (data_used (first + (place s m).offset) (place s m).number) ∙ law.back s m hs hm;
      names = λ o u ho hu np. law.names o (data_of_used (first + o) u) ho (data_lt (first + o) u np n hu);
      forth = λ o u ho hu np.
          ap (bin_spot first) (law.forth o (data_of_used (first + o) u) ho (data_lt (first + o) u np n hu))
          ∙ (λ i. record { offset = o; used = used-data (first + o) u np i });
    }
