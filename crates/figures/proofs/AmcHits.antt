-- The hits of AMC as places: whatever the slot's shape, two cells put index j of a subchannel on one carrier of one symbol just where they give the same v.
use Rattle.base.proofs.{Prelude.{◌≡◌, sym, ap, ap₂, ◌∙◌, true, ℕ, ◌+◌, ◌*◌, ◌/◌, ◌%◌, ◌<◌, digits_mod, eqb-true, eq-eqb}, Chain.same_accepted}
use Rattle.base.specs.Answer.{accepted}
use Rattle.ofusc.specs.Width.{Width}
use Rattle.ofusc.proofs.Sequence.{pos}
use Rattle.amc.specs.{declared.Shape.Shape, Model.IsShape, Map.{traffic, traffic_number, data_number}}
use Rattle.amc.proofs.Law.{traffic_lt, traffic_back, offset_lt, number_below}
use Rattle.map.specs.Place.{Place, used_carrier, place_at, place_of}
use Rattle.formulas.specs.Formula.{spot_of}
use Rattle.modes.specs.{Setup.setup_with, Mode.{shape_of, width_of, subchannels, subchannels_of, symbols_of, band_of}}
use Rattle.modes.specs.Model.{IsAmc, amc}
use Rattle.modes.proofs.{Accept.width_is, Choice.{amc_shape, amc_column}, Lent.valid_alone}
use Rattle.map.proofs.Law.{place_accepts}
use Rattle.collision.specs.Collision.{amc_hit}
use Rattle.collision.proofs.Group.{carrier_at, number_of, number_at}
use Rattle.figures.specs.Word.{SamePlace}

module _ {mode : ℕ} (q : IsAmc mode) {n : ℕ} (w : Width n) (slot s : ℕ) where
  abbrev shape : Shape
  shape = shape_of mode

  six : IsShape shape
  six = amc_shape mode q

  -- where traffic place v of the subchannel is
  abbrev at : ℕ → Place
  at v =
      let x = traffic_number shape s v in
      let y = slot * shape.symbols + x.offset in
      record { symbol = y; carrier = carrier_at n y x.number }

  placed : (cell j : ℕ) → cell < 2352 → slot < 512 → s < subchannels (setup_with mode (64 * n) cell) → j < 48
      → place_of (setup_with mode (64 * n) cell) slot s j ≡ accepted (at (traffic cell j))
  unfolding used_carrier place_at spot_of symbols_of band_of width_of data_number
  placed cell j h hy hs hj =
      place_accepts (setup_with mode (64 * n) cell) slot s j (valid_alone (amc q w h)) hy hs hj
      ∙ simp (amc_column, width_is n)

  -- and what v a place has
  v_of : Place → ℕ
  v_of p =
      let o = p.symbol % shape.symbols in
      let d = number_of n p.symbol p.carrier in
      (o * shape.bins + d / 8 % shape.bins) * 8 + d % 8

  v_back : (v : ℕ) → v < 48 → s < n * shape.symbols → v_of (at v) ≡ v
  unfolding v_of six
  v_back v h hs =
      let x = traffic_number shape s v in
      let offset : (slot * shape.symbols + x.offset) % shape.symbols ≡ x.offset = digits_mod slot (offset_lt shape six s v h) in
      let number = number_at n (slot * shape.symbols + x.offset) x.number (pos w) (number_below shape six s v n hs) in
      ap₂ (λ (o d : ℕ). (o * shape.bins + d / 8 % shape.bins) * 8 + d % 8) offset number ∙ traffic_back shape six s v

  module _ (a b j : ℕ) (ha : a < 2352) (hb : b < 2352) (hy : slot < 512) (hs : s < subchannels (setup_with mode (64 * n) a)) (hj : j < 48) where
    pub amc_met : amc_hit a b j ≡ true → SamePlace (place_of (setup_with mode (64 * n) a) slot s j) (place_of (setup_with mode (64 * n) b) slot s j)
    unfolding amc_hit subchannels_of width_of
    amc_met e =
        record {
          at = at (traffic a j);
          first = placed a j ha hy hs hj;
          second = placed b j hb hy hs hj ∙ ap (λ (v : ℕ). accepted (at v)) (sym (eqb-true (traffic a j) (traffic b j) e));
        }

    pub amc_meets : SamePlace (place_of (setup_with mode (64 * n) a) slot s j) (place_of (setup_with mode (64 * n) b) slot s j) → amc_hit a b j ≡ true
    unfolding amc_hit subchannels_of width_of
    amc_meets c =
        let hs' : s < n * shape.symbols = simp (amc_column, width_is n) at hs in
        let same : at (traffic a j) ≡ at (traffic b j) = same_accepted (sym (placed a j ha hy hs hj) ∙ c.first ∙ sym c.second ∙ placed b j hb hy hs hj) in
        eq-eqb (traffic a j) (traffic b j)
        (sym (v_back (traffic a j) (traffic_lt a ha j) hs') ∙ ap v_of same ∙ v_back (traffic b j) (traffic_lt b hb j) hs')
