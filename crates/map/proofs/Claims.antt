-- What specs/Law.antt claims of the map holds.
use Rattle.base.proofs.Prelude.{◌≡◌, sym, ap, ◌∙◌, subst, false, ℕ, ◌+◌, ◌*◌, ◌/◌, ◌<◌, arith, digits_div, digits_lt}
use Rattle.base.proofs.Chain.{ask_yes}
use lib.IntN.{ℤ, pos}
use Rattle.base.specs.Answer.{accepted}
use Rattle.carriers.specs.Band.{carrier_of, used_of}
use Rattle.carriers.proofs.Guards.{carrier_lt, carrier_no_guard, carrier_no_dc, used-carrier, band_law as columns}
use Rattle.modes.specs.{Setup.Setup, Mode.{symbols, band}, Question.is_lent}
use Rattle.formulas.specs.Formula.{is_pilot, spot_of, address_of}
use Rattle.map.specs.Place.{Place, dc, used_carrier, place_at, place_of, content_of, locate_of}
use Rattle.modes.specs.Model.{Valid}
use Rattle.map.specs.Law.{Passes, PlacedAt, HoldsData, JustOnePoint, MapLaw}
use Rattle.modes.proofs.Accept.{setup_asked}
use Rattle.map.proofs.Law.{placing, place_accepts, locate_column, located_where_placed, placed_where_located, one_address}
use Rattle.map.proofs.Law.{in_own_slot, data_placed, dc_content, pilot_content}
use Rattle.formulas.proofs.Slot.{slot_law}
use Rattle.modes.proofs.Whole.{band_law, centred}

-- what the premise of the law comes to
pub passed : (setup : Setup) → Passes setup → Valid setup
passed setup e =
    let q = setup_asked setup _ e in
    record { ranged = q.0; is-lent = (ask_yes (is_lent setup) 20 _ q.1).0 }

-- a data carrier of a symbol of the slot has its point, and no other
module _ (setup : Setup) (v : Valid setup) (slot offset : ℕ) (carrier : ℤ) (hs : slot < 512) (ho : offset < symbols setup) where
  abbrev y : ℕ
  y = slot * symbols setup + offset

  point_there : HoldsData setup y carrier → JustOnePoint setup slot y carrier
  unfolding used_carrier
  point_there d =
      let b = band_law v.ranged in
      let u = d.used in
      let column = carrier_of (band setup) u in
      let used_is = used-carrier (band setup) setup.size b u d.used_below in
      let g = carrier_no_guard (band setup) setup.size b u d.used_below in
      let c = carrier_no_dc (band setup) setup.size b u d.used_below in
      let np : is_pilot setup y (used_of (band setup) column) ≡ false = ap (is_pilot setup y) used_is ∙ d.no_pilot in
      let a = address_of setup y (used_of (band setup) column) in
      let placed : PlacedAt setup slot a.subchannel a.index y carrier =
      ap (λ (n : ℕ). place_of setup n a.subchannel a.index) (sym (digits_div slot ho)) ∙ data_placed setup v y column g c np (digits_lt hs ho)
      ∙ ap (λ (k : ℤ). accepted (record { symbol = y; carrier = k })) d.carrier_is in
      record {
        subchannel = a.subchannel;
        index = a.index;
        is_placed = placed;
        no_other = λ s m e. let q = one_address setup slot s m slot a.subchannel a.index e placed in (q.1, q.2);
        is_found = located_where_placed setup slot a.subchannel a.index placed;
      }

  data_there : JustOnePoint setup slot y carrier → HoldsData setup y carrier
  unfolding place_at
  data_there j =
      let q = placing setup slot j.subchannel j.index j.is_placed in
      let x = spot_of setup slot j.subchannel j.index in
      let l = (slot_law v slot).lies j.subchannel j.index q.subchannel_lt q.index_lt in
      record {
        used = x.used;
        used_below = l.used_lt;
        carrier_is = ap (λ (p : Place). p.carrier) q.place_is;
        no_pilot = subst (λ (t : ℕ). is_pilot setup t x.used ≡ false) (ap (λ (p : Place). p.symbol) q.place_is) l.no_pilot;
      }

-- DC stands in the middle of the row
dc_there : (setup : Setup) → Valid setup → (y : ℕ) → y < 512 * symbols setup → locate_of setup y (pos 0) ≡ accepted dc
dc_there setup v y h =
    let q = centred v.ranged in
    let below : setup.size / 2 < setup.size = omega (arith, band_law v.ranged) in
    ap (locate_of setup y) (sym q.0.middle) ∙ locate_column setup y (setup.size / 2) v h below
    ∙ ap accepted (ap (content_of setup y) (sym q.1) ∙ dc_content setup v y)

pub map_law : MapLaw
unfolding used_carrier
map_law =
    record {
      just_one_point = λ setup slot offset carrier e hs ho.
          let v = passed setup e in
          (point_there setup v slot offset carrier hs ho, data_there setup v slot offset carrier hs ho);
      located_where_placed = λ setup slot s m y k e. located_where_placed setup slot s m e;
      placed_where_located = placed_where_located;
      one_address = λ setup slot s m slot' s' m' y k e e'. one_address setup slot s m slot' s' m' e e';
      in_own_slot = λ setup slot s m y k e. in_own_slot setup slot s m e;
      pilot_found = λ setup y u e hy hu p.
          let v = passed setup e in
          locate_column setup y _ v hy (carrier_lt (band setup) setup.size (band_law v.ranged) u hu) ∙ ap accepted (pilot_content setup v y u hu p);
      carriers_rise = λ setup u next e l.
          let v = passed setup e in
          (centred v.ranged).0.rising _ _ ((columns (band setup) setup.size (band_law v.ranged)).rising u next l);
      dc_at_0 = λ setup y e hy. dc_there setup (passed setup e) y hy;
      place_accepts = λ setup slot s m e h₄ h₅ h₆. (place_at setup slot (spot_of setup slot s m), place_accepts setup slot s m (passed setup e) h₄ h₅ h₆);
      locate_accepts = λ setup y column e h₄ h. (content_of setup y column, locate_column setup y column (passed setup e) h₄ h);
    }
