-- THE LAW OF THE MAP, for every mode, size and cell that the questions let pass. It rests on the laws of `Slot`, and on no mode's text.
use Rattle.base.proofs.Prelude.{◌≡◌, refl, sym, ap, ◌∙◌, subst, true, false, ℕ, ◌+◌, ◌-◌, ◌*◌, ◌/◌, ◌%◌, ◌<◌, mod-lt, div-add-mod', div-lt_iff_lt-mul}
use Rattle.base.proofs.Prelude.{arith, digits_div, digits_lt, lt-ltb, le-ltb, eq-eqb, ltb-true}
use Rattle.base.proofs.{Test.cases, Chain.{ask_yes, same_accepted}}
use lib.{IntN.ℤ, Signed.mag}
use borrow.Author.Tests.{lt-leb}
use Rattle.base.specs.Answer.{accepted}
use Rattle.carriers.specs.{declared.Spot.Spot, declared.Address.Address, Band.{carrier_of, used_of, is_guard, is_dc}, Law.PointOf}
use Rattle.carriers.proofs.Guards.{carrier_lt, carrier_no_guard, carrier_no_dc, used-carrier, used_lt, carrier_used}
use Rattle.centre.specs.Centre.{from_dc, in_range, on_row}
use Rattle.centre.proofs.Law.{in_range_mag}
use Rattle.modes.specs.{Setup.Setup, Mode.{subchannels, symbols, band}}
use Rattle.formulas.specs.Formula.{is_pilot, spot_of, address_of}
use Rattle.modes.specs.Question.{is_slot, is_symbol, is_subchannel, is_index, is_carrier, is_lent}
use Rattle.map.specs.Place.{Place, Content, dc, pilot, point, used_carrier, place_at, place_of, data_at, content_of, locate_of}
use Rattle.modes.specs.Model.{Valid}
use Rattle.modes.proofs.{Accept.{setup_asked, passes}, ByMode.few, Whole.{band_law, centred}}
use Rattle.formulas.proofs.Slot.{LawOf, slot_law}

-- an accepted request to place, and one to locate
pub record Placing (c : Setup) (slot s m : ℕ) (p : Place) : Type 0 where
  pub is_valid : Valid c
  pub slot_lt : slot < 512
  pub subchannel_lt : s < subchannels c
  pub index_lt : m < 48
  pub place_is : place_at c slot (spot_of c slot s m) ≡ p

pub record Locating (c : Setup) (y : ℕ) (k : ℤ) (w : Content) : Type 0 where
  pub is_valid : Valid c
  pub symbol_lt : y < 512 * symbols c
  pub in-range : in_range c.size k ≡ true
  pub column_lt : on_row c.size k < c.size
  pub column_is : from_dc c.size (on_row c.size k) ≡ k
  pub content_is : content_of c y (on_row c.size k) ≡ w

pub placing : (c : Setup) (slot s m : ℕ) {p : Place} → place_of c slot s m ≡ accepted p → Placing c slot s m p
unfolding place_of is_slot is_subchannel is_index
placing c slot s m e =
    let q = setup_asked c _ e in
    let q₄ = ask_yes (is_slot slot) 4 _ q.1 in
    let q₅ = ask_yes (is_subchannel c s) 5 _ q₄.1 in
    let q₆ = ask_yes (is_index m) 6 _ q₅.1 in
    let q₂₀ = ask_yes (is_lent c) 20 _ q₆.1 in
    record {
      is_valid = record { ranged = q.0; is-lent = q₂₀.0 };
      slot_lt = ltb-true slot 512 q₄.0;
      subchannel_lt = ltb-true s (subchannels c) q₅.0;
      index_lt = ltb-true m 48 q₆.0;
      place_is = same_accepted q₂₀.1;
    }

pub locating : (c : Setup) (y : ℕ) (k : ℤ) {w : Content} → locate_of c y k ≡ accepted w → Locating c y k w
unfolding locate_of is_symbol is_carrier
locating c y k e =
    let q = setup_asked c _ e in
    let q₄ = ask_yes (is_symbol c y) 4 _ q.1 in
    let q₇ = ask_yes (is_carrier c k) 7 _ q₄.1 in
    let q₂₀ = ask_yes (is_lent c) 20 _ q₇.1 in
    let l = (centred q.0).0 in
    record {
      is_valid = record { ranged = q.0; is-lent = q₂₀.0 };
      symbol_lt = ltb-true y (512 * symbols c) q₄.0;
      in-range = q₇.0;
      column_lt = l.column_lt k q₇.0;
      column_is = l.forth k q₇.0;
      content_is = same_accepted q₂₀.1;
    }

-- FIELDS IN RANGE ARE ACCEPTED, so what is said below of accepted requests is said of every valid setup.
pub place_accepts : (c : Setup) (slot s m : ℕ) → Valid c → slot < 512 → s < subchannels c → m < 48
    → place_of c slot s m ≡ accepted (place_at c slot (spot_of c slot s m))
unfolding place_of is_slot is_subchannel is_index
place_accepts c slot s m v h₄ h₅ h₆ = passes v.ranged ∙ rw (lt-ltb _ _ h₄, lt-ltb _ _ h₅, lt-ltb _ _ h₆, v.is-lent)

pub locate_accepts : (c : Setup) (y : ℕ) (k : ℤ) → Valid c → y < 512 * symbols c → is_carrier c k ≡ true → locate_of c y k ≡ accepted (content_of c y (on_row c.size k))
unfolding locate_of is_symbol
locate_accepts c y k v h₄ h₇ = passes v.ranged ∙ rw (lt-ltb _ _ h₄, h₇, v.is-lent)

-- the same by the column
pub locate_column : (c : Setup) (y column : ℕ) → Valid c → y < 512 * symbols c → column < c.size → locate_of c y (from_dc c.size column) ≡ accepted (content_of c y column)
unfolding is_carrier
locate_column c y column v h₄ h =
    let l = (centred v.ranged).0 in
    locate_accepts c y (from_dc c.size column) v h₄ (l.in-range column h) ∙ ap (λ (k : ℕ). accepted (content_of c y k)) (l.back column)

symbols_pos : {c : Setup} → Valid c → 0 < symbols c
symbols_pos v = (few v.ranged).symbols_pos

-- the place of a point holds that point
module _ (c : Setup) (v : Valid c) (slot s m : ℕ) (hs : s < subchannels c) (hm : m < 48) where
  abbrev x : Spot
  x = spot_of c slot s m

  abbrev l : LawOf c slot
  l = slot_law v slot

  pub content_placed : content_of c (slot * symbols c + x.offset) (carrier_of (band c) x.used) ≡ point slot s m
  unfolding content_of data_at
  content_placed =
      let h = l.lies s m hs hm in
      let b = band_law v.ranged in
      rw (
        carrier_no_guard (band c) c.size b x.used h.used_lt,
        carrier_no_dc (band c) c.size b x.used h.used_lt,
        used-carrier (band c) c.size b x.used h.used_lt,
        h.no_pilot,
        l.back s m hs hm,
        digits_div slot h.offset_lt,
      )

-- the point of a data column is placed there
module _ (c : Setup) (v : Valid c) (y k : ℕ)
    (g : is_guard (band c) c.size k ≡ false) (d : is_dc (band c) k ≡ false) (np : is_pilot c y (used_of (band c) k) ≡ false) where
  abbrev u : ℕ
  u = used_of (band c) k

  abbrev a : Address
  a = address_of c y u

  u_lt : u < (band c).used
  u_lt = used_lt (band c) c.size (band_law v.ranged) k g d

  -- symbol y is symbol y mod L of slot y div L
  in_slot : PointOf (subchannels c) a × (spot_of c (y / symbols c) a.subchannel a.index ≡ record { offset = y % symbols c; used = u })
  in_slot =
      let slot = y / symbols c in
      let o = y % symbols c in
      let h = mod-lt y (symbols_pos v) in
      subst (λ (t : ℕ). is_pilot c t u ≡ false → PointOf (subchannels c) (address_of c t u) × (spot_of c slot (address_of c t u).subchannel (address_of c t u).index ≡ record { offset = o; used = u }))
      (div-add-mod' y (symbols c)) (λ q. ((slot_law v slot).names o u h u_lt q, (slot_law v slot).forth o u h u_lt q)) np

  pub data_content : content_of c y k ≡ point (y / symbols c) a.subchannel a.index
  unfolding content_of data_at
  data_content = rw (g, d, np)

  pub data_placed : y < 512 * symbols c → place_of c (y / symbols c) a.subchannel a.index ≡ accepted (record { symbol = y; carrier = from_dc c.size k })
  unfolding place_at used_carrier
  data_placed h =
      place_accepts c (y / symbols c) a.subchannel a.index v ((div-lt_iff_lt-mul (symbols_pos v)).1 h) in_slot.0.subchannel_lt in_slot.0.index_lt
      ∙ ap (λ (t : Spot). accepted (place_at c (y / symbols c) t)) in_slot.1
      ∙ (λ i. accepted (record { symbol = div-add-mod' y (symbols c) i; carrier = from_dc c.size (carrier_used (band c) c.size (band_law v.ranged) k g d i) }))

-- LOCATE FINDS WHAT PLACE PLACED. Where a request to place is accepted, the carrier holds that point and no other.
pub located_where_placed : (c : Setup) (slot s m : ℕ) {p : Place} → place_of c slot s m ≡ accepted p
    → locate_of c p.symbol p.carrier ≡ accepted (point slot s m)
unfolding place_at used_carrier
located_where_placed c slot s m {p} e =
    let q = placing c slot s m e in
    let h = (slot_law q.is_valid slot).lies s m q.subchannel_lt q.index_lt in
    ap (λ (t : Place). locate_of c t.symbol t.carrier) (sym q.place_is)
    ∙ locate_column c _ _ q.is_valid (digits_lt q.slot_lt h.offset_lt)
    (carrier_lt (band c) c.size (band_law q.is_valid.ranged) (spot_of c slot s m).used h.used_lt)
    ∙ ap accepted (content_placed c q.is_valid slot s m q.subchannel_lt q.index_lt)

-- a column that holds a point is no guard, not DC and no pilot
point_carrier : (c : Setup) (y k : ℕ) {slot s m : ℕ} → content_of c y k ≡ point slot s m
    → (is_guard (band c) c.size k ≡ false) × (is_dc (band c) k ≡ false) × (is_pilot c y (used_of (band c) k) ≡ false)
unfolding content_of
point_carrier c y k e =
    cases (is_guard (band c) c.size k)
    (λ g. absurd (let h = rw g at e in let z : ◌≡◌ {A = ℕ} 0 1 = cc in omega arith))
    (λ g. cases (is_dc (band c) k)
    (λ d. absurd (let h = rw (g, d) at e in let z : ◌≡◌ {A = ℕ} 0 1 = cc in omega arith))
    (λ d. cases (is_pilot c y (used_of (band c) k))
    (λ p. absurd (let h = rw (g, d, p) at e in let z : ◌≡◌ {A = ℕ} 0 1 = cc in omega arith))
    (λ p. (g, d, p))))

-- PLACE PUTS A POINT WHERE LOCATE FOUND IT. Where a carrier holds data, it is the place of the address that `locate` gives.
pub placed_where_located : (c : Setup) (y : ℕ) (k : ℤ) (slot s m : ℕ) → locate_of c y k ≡ accepted (point slot s m)
    → place_of c slot s m ≡ accepted (record { symbol = y; carrier = k })
placed_where_located c y k slot s m e =
    let q = locating c y k e in
    let column = on_row c.size k in
    let n = point_carrier c y column q.content_is in
    let h = sym (data_content c q.is_valid y column n.0 n.1 n.2) ∙ q.content_is in
    cc (data_placed c q.is_valid y column n.0 n.1 n.2 q.symbol_lt, q.column_is)

-- So different addresses have different places: each data subcarrier belongs to just one slot, subchannel and index.
pub one_address : (c : Setup) (slot s m slot' s' m' : ℕ) {p : Place} → place_of c slot s m ≡ accepted p → place_of c slot' s' m' ≡ accepted p
    → (slot ≡ slot') × (s ≡ s') × (m ≡ m')
one_address c slot s m slot' s' m' {p} e e' =
    let h : point slot s m ≡ point slot' s' m' = same_accepted (sym (located_where_placed c slot s m e) ∙ located_where_placed c slot' s' m' e') in
    ((cc), (cc), (cc))

-- The point lies in a symbol of its own slot.
pub in_own_slot : (c : Setup) (slot s m : ℕ) {p : Place} → place_of c slot s m ≡ accepted p → p.symbol / symbols c ≡ slot
unfolding place_at
in_own_slot c slot s m e =
    let q = placing c slot s m e in
    ap (λ (t : Place). t.symbol / symbols c) (sym q.place_is)
    ∙ digits_div slot ((slot_law q.is_valid slot).lies s m q.subchannel_lt q.index_lt).offset_lt

-- the numbers of an accepted answer are small
pub place_small : (c : Setup) (slot s m : ℕ) {p : Place} → place_of c slot s m ≡ accepted p → (p.symbol < 3072) × (mag p.carrier < 1024)
place_small c slot s m {p} e =
    let q = locating c _ _ (located_where_placed c slot s m e) in
    omega (arith, q.symbol_lt, in_range_mag c.size p.carrier q.in-range, few q.is_valid.ranged)

pub point_small : (c : Setup) (y : ℕ) (k : ℤ) (slot s m : ℕ) → locate_of c y k ≡ accepted (point slot s m) → (slot < 512) × (s < 192) × (m < 48)
point_small c y k slot s m e =
    let q = placing c slot s m (placed_where_located c y k slot s m e) in
    omega (arith, q.slot_lt, q.subchannel_lt, q.index_lt, few q.is_valid.ranged)

-- DC holds DC
pub dc_content : (c : Setup) → Valid c → (y : ℕ) → content_of c y (band c).dc ≡ dc
unfolding content_of is_guard is_dc
dc_content c v y =
    let b = band_law v.ranged in
    rw (le-ltb (band c).dc (band c).left (omega (arith, b)), lt-leb (c.size - (band c).right) (band c).dc (omega (arith, b)), eq-eqb (band c).dc (band c).dc refl)

-- a pilot's carrier holds the pilot, and a carrier that holds a pilot is a pilot's
pub pilot_content : (c : Setup) → Valid c → (y u : ℕ) → u < (band c).used → is_pilot c y u ≡ true → content_of c y (carrier_of (band c) u) ≡ pilot
unfolding content_of
pilot_content c v y u h e =
    let b = band_law v.ranged in
    rw (carrier_no_guard (band c) c.size b u h, carrier_no_dc (band c) c.size b u h, used-carrier (band c) c.size b u h, e)

pub record PilotAt (c : Setup) (y k : ℕ) : Type 0 where
  pub used_below : used_of (band c) k < (band c).used
  pub is-pilot : is_pilot c y (used_of (band c) k) ≡ true
  pub carrier_is : carrier_of (band c) (used_of (band c) k) ≡ k

pub pilot-at : (c : Setup) → Valid c → (y k : ℕ) → content_of c y k ≡ pilot → PilotAt c y k
unfolding content_of data_at
pilot-at c v y k e =
    cases (is_guard (band c) c.size k)
    (λ g. absurd (let h = rw g at e in let z : ◌≡◌ {A = ℕ} 0 1 = cc in omega arith))
    (λ g. cases (is_dc (band c) k)
    (λ d. absurd (let h = rw (g, d) at e in let z : ◌≡◌ {A = ℕ} 0 1 = cc in omega arith))
    (λ d. cases (is_pilot c y (used_of (band c) k))
    (λ p. record { used_below = used_lt (band c) c.size (band_law v.ranged) k g d; is-pilot = p; carrier_is = carrier_used (band c) c.size (band_law v.ranged) k g d })
    (λ p. absurd (let h = rw (g, d, p) at e in let z : ◌≡◌ {A = ℕ} 0 1 = cc in omega arith))))
