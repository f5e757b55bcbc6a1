-- What `place` answers in optional FUSC, by data numbers, and who is in group k.
use Rattle.base.proofs.{Prelude.{◌≡◌, refl, sym, ap, ◌∙◌, ℕ, ◌+◌, ◌-◌, ◌*◌, ◌/◌, ◌<◌, arith, digits_div, digits_lt, lit<}, Perm.rotation}
use Rattle.base.specs.Answer.{accepted}
use Rattle.ofusc.specs.{Width.Width, Map.{group_of, data_number}}
use Rattle.ofusc.proofs.{Sequence.pos, Law.{element_lt, group_digit, law}}
use Rattle.modes.specs.{Setup.setup_with, Mode.{width_of, symbols_of, subchannels_of, band_of}, Model.ofusc}
use Rattle.map.specs.Place.{Place, used_carrier, place_at, place_of}
use Rattle.formulas.specs.Formula.{spot_of}
use Rattle.modes.proofs.{Accept.width_is, Lent.valid_alone}
use Rattle.map.proofs.Law.{place_accepts}
use Rattle.collision.specs.Collision.{index_in}
use Rattle.figures.specs.Word.{InGroup}
use Rattle.collision.proofs.Group.{carrier_at, one_symbol, same_number, element, number_in}

-- data number d of symbol y
abbrev pub at : ℕ → ℕ → ℕ → Place
at n y d = record { symbol = y; carrier = carrier_at n y d }

module _ {n : ℕ} (w : Width n) (cell slot s m : ℕ) (hy : slot < 512) (hs : s < n) (hm : m < 48) where
  pub ofusc_placed : cell < n * n → place_of (setup_with 2 (64 * n) cell) slot s m ≡ accepted (at n slot (data_number n cell s m))
  unfolding used_carrier place_at spot_of symbols_of subchannels_of band_of width_of
  ofusc_placed h =
      place_accepts (setup_with 2 (64 * n) cell) slot s m (valid_alone (ofusc w h)) hy (rw (width_is n) hs) hm
      ∙ rw (width_is n, one_symbol slot)

pub index_lt : (s k : ℕ) → index_in s k < 48
unfolding index_in
index_lt s k = omega arith

-- subchannel s has index (k-23s) mod 48 in group k, and no other
module _ {n : ℕ} (w : Width n) (cell slot s k m : ℕ) (hs : s < n) (hk : k < 48) (hm : m < 48) where
  pub index_is : InGroup n slot k (carrier_at n slot (data_number n cell s m)) → m ≡ index_in s k
  unfolding group_of index_in
  index_is g =
      let whole : k * n + (g.data-number - k * n) ≡ g.data-number = omega arith in
      let rest : g.data-number - k * n < n = omega arith in
      let d_lt : g.data-number < 48 * n = rw whole at (digits_lt hk rest) in
      let same = same_number n slot (data_number n cell s m) g.data-number (pos w) ((law w cell).number_lt s m hs hm) d_lt g.lies in
      let group : group_of s m ≡ k = sym (group_digit w cell s m hs) ∙ ap (λ (x : ℕ). x / n) (same ∙ sym whole) ∙ digits_div k rest in
      sym ((rotation 48 (23 * s) (lit< tt)).back m hm) ∙ ap (index_in s) group

  pub index-in : m ≡ index_in s k → InGroup n slot k (carrier_at n slot (data_number n cell s m))
  index-in e =
      let is : data_number n cell s m ≡ k * n + element w k hk cell s = ap (data_number n cell s) e ∙ number_in w k hk cell s in
      record { data-number = data_number n cell s m; from = omega (arith, is); below = omega (arith, is, element_lt w cell s k hs); lies = refl }
