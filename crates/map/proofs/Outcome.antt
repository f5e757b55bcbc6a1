-- What placing and locating come to at each of their returns.
use Rattle.base.proofs.Prelude.{◌≡◌, sym, ap, ◌∙◌, Bool, true, false, ℕ, ◌*◌, ◌/◌, ◌<◌, ◌≤◌, lt-ltb}
use Rattle.base.proofs.Test.{told_no}
use lib.IntN.{ℤ}
use mir.{Syntax.w32, Val.{SFits, to_z, of_z}, ValLaws.to_z-of_z}
use Rattle.std.specs.Result.{IsErrAnd}
use Rattle.std.proofs.lemmas.Result.{err_from_is_err_and}
use Rattle.std.proofs.Common.{Result}
use Rattle.base.specs.Answer.{Answer, accepted, refused}
use Rattle.refusal.specs.{declared.Refusal.Refusal, Refusal.number_of}
use Rattle.map.specs.{declared.Placed.Placed, declared.Located.Located}
use Rattle.carriers.specs.{declared.Address.Address, declared.Band.Band, Band.{used_of, is_guard, is_dc}, declared.Spot.Spot}
use Rattle.carriers.proofs.Guards.{used_left, used_lt}
use Rattle.centre.specs.Centre.{in_range, on_row}
use Rattle.modes.specs.{Setup.{Setup, setup_with}, Mode.{subchannels, symbols, band}, Question.{is_slot, is_subchannel, is_index, is_lent}}
use Rattle.formulas.specs.Formula.{is_pilot, spot_of, address_of}
use Rattle.modes.specs.Model.{setup_refusal, Ranged, Valid}
use Rattle.map.specs.Place.{Place, placed, located, Content, guard, dc, pilot, point, used_carrier, place_at, place_of, data_at, content_of, locate_of}
use Rattle.modes.proofs.{ByMode.ranged_alone, Whole.band_law, Outcome.{lets_pass, carrier_yes}}
use Rattle.map.proofs.Law.{place_accepts, locate_accepts}
use Rattle.formulas.proofs.Slot.{slot_law}

-- what `?` hands on, as an answer
pub placed_on : (r : Result Placed Refusal) (e : Refusal) → IsErrAnd r (λ y. y ≡ e) → (a : Answer Place) → refused (number_of e) ≡ a → placed r ≡ a
placed_on r e f a h = let p = err_from_is_err_and r f in rw (p.1, p.2) h

pub located_on : (r : Result Located Refusal) (e : Refusal) → IsErrAnd r (λ y. y ≡ e) → (a : Answer Content) → refused (number_of e) ≡ a → located r ≡ a
located_on r e f a h = let p = err_from_is_err_and r f in rw (p.1, p.2) h

module _ (c : Setup) (slot s m : ℕ) where
  -- what the inner functions ask there, and what they give
  module _ (n : ℕ) (q : n ≡ subchannels c) (hs : s < n) where
    pub subchannel_in : s < subchannels c
    subchannel_in = rw (← q) hs

  -- question 20 is the last
  pub place_not_lent : (k : ℕ) → k ≡ setup_refusal c → k ≡ 0 → slot < 512 → s < subchannels c → m < 48 → (t : Bool) → t ≡ is_lent c → t ≡ false → refused 20 ≡ place_of c slot s m
  unfolding place_of is_slot is_subchannel is_index
  place_not_lent k e z h hs hm t j n = lets_pass c _ (sym z ∙ e) (refused 20) (rw (lt-ltb _ _ h, lt-ltb _ _ hs, lt-ltb _ _ hm, told_no t j n))

  pub place_done : Valid c → slot < 512 → s < subchannels c → m < 48 → (x : Spot) → x ≡ spot_of c slot s m
      → (p : Place) → p ≡ place_at (setup_with c.mode c.size c.cell) slot x → accepted p ≡ place_of c slot s m
  unfolding place_at used_carrier
  place_done v h hs hm x f p g = ap (λ p. accepted p) g ∙ ap (λ x. accepted (place_at c slot x)) f ∙ sym (place_accepts c slot s m v h hs hm)

pub locate_done : (c : Setup) (k : ℤ) (fits : SFits w32 k) (t : Bool) → t ≡ in_range c.size (to_z w32 (of_z w32 k)) → t ≡ true
    → (column : ℕ) → column ≡ on_row c.size (to_z w32 (of_z w32 k))
    → (y : ℕ) → Valid c → y < 512 * symbols c → (a : Content) → a ≡ content_of c y column → accepted a ≡ locate_of c y k
locate_done c k fits t g yes' column f y v l a h =
    ap (λ a. accepted a) h ∙ ap (λ (x : ℕ). accepted (content_of c y x)) (f ∙ ap (on_row c.size) (to_z-of_z w32 k fits))
    ∙ sym (locate_accepts c y k v l (carrier_yes c k fits t g yes'))

-- the answers of a column of an accepted symbol's row, test by test
module _ (c : Setup) (y k : ℕ) (b : Band) (e : b ≡ band c) where
  pub content_guard : (g : Bool) → g ≡ is_guard b c.size k → g ≡ true → guard ≡ content_of c y k
  unfolding content_of
  content_guard g h t = rw (← e, ← h, t)

  pub content_dc : (g : Bool) → g ≡ is_guard b c.size k → g ≡ false → (d : Bool) → d ≡ is_dc b k → d ≡ true → dc ≡ content_of c y k
  unfolding content_of
  content_dc g h t d h₁ t₁ = rw (← e, ← h, t, ← h₁, t₁)

  pub content_pilot : (g : Bool) → g ≡ is_guard b c.size k → g ≡ false → (d : Bool) → d ≡ is_dc b k → d ≡ false
      → (u : ℕ) → u ≡ used_of b k → (p : Bool) → p ≡ is_pilot c y u → p ≡ true → pilot ≡ content_of c y k
  unfolding content_of
  content_pilot g h t d h₁ t₁ u h₂ p h₃ t₃ = rw (← e, ← h, t, ← h₁, t₁, ← h₂, ← h₃, t₃)

  pub content_point : (g : Bool) → g ≡ is_guard b c.size k → g ≡ false → (d : Bool) → d ≡ is_dc b k → d ≡ false
      → (u : ℕ) → u ≡ used_of b k → (p : Bool) → p ≡ is_pilot c y u → p ≡ false → (a : Address) → a ≡ address_of c y u → (n : ℕ) → n ≡ y / symbols c
      → point n a.subchannel a.index ≡ content_of c y k
  unfolding content_of data_at
  content_point g h t d h₁ t₁ u h₂ p h₃ t₃ a h₄ n h₅ = rw (← e, ← h, t, ← h₁, t₁, ← h₂, ← h₃, t₃, ← h₄, ← h₅)

  -- what the inner functions ask there
  pub content_left : Valid c → (g : Bool) → g ≡ is_guard b c.size k → g ≡ false → (d : Bool) → d ≡ is_dc b k → d ≡ false → b.left ≤ k
  content_left v g h t d h₁ t₁ =
      rw e (used_left (band c) c.size (band_law v.ranged) k (rw e at (sym h ∙ t)) (rw e at (sym h₁ ∙ t₁)))

  pub content_used : Valid c → (g : Bool) → g ≡ is_guard b c.size k → g ≡ false → (d : Bool) → d ≡ is_dc b k → d ≡ false
      → (u : ℕ) → u ≡ used_of b k → u < (band c).used
  content_used v g h t d h₁ t₁ u h₂ =
      rw (h₂, e) (used_lt (band c) c.size (band_law v.ranged) k (rw e at (sym h ∙ t)) (rw e at (sym h₁ ∙ t₁)))

pub no_pilot : (c : Setup) (y u : ℕ) (p : Bool) → p ≡ is_pilot c y u → p ≡ false → is_pilot c y u ≡ false
no_pilot c y u p h t = sym h ∙ t

-- a spot that `spot` gives may be placed
pub spot_asks : (c : Setup) (slot s m : ℕ) (x : Spot) → Valid c → slot < 512 → s < subchannels c → m < 48 → x ≡ spot_of c slot s m
    → Ranged (setup_with c.mode c.size c.cell) × ((slot < 512) × (x.offset < symbols c) × (x.used < (band c).used))
spot_asks c slot s m x v h hs hm e =
    let l = (slot_law v slot).lies s m hs hm in
    (ranged_alone v, (h, rw e l.offset_lt, rw e l.used_lt))
