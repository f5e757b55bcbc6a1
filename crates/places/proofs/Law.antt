-- THE LAW OF THE PLACES, from the questions of a row and from where a point stands in the grid.
use Rattle.base.proofs.Prelude.{◌≡◌, refl, sym, ap, ◌∙◌, List, [], ◌∷◌, ◌++◌, ℕ, ◌%◌, ◌<◌, length, lt-ltb, ltb-true, eq-eqb}
use Rattle.base.proofs.{Chain.{Questions, all_numbered, all_yes, number_is}, Tabulate.{length_tabulate, get_d_tabulate, tabulated, entry_of}}
use mathlib.Core.Logic.{◌⊎◌, inl, inr, ⊎_elim}
use lib.Ieee.{Float}
use Rattle.base.specs.{Answer.{Answer, accepted, refused, refusal_of}, Steps.entry, Tabulate.tabulate}
use Rattle.carriers.specs.Bin.{bin_pilot_place, used_of_data}
use Rattle.modes.specs.{Setup.Setup, Mode.{subchannels, symbols}, Question.{is_slot, is_subchannel, is_index, is_lent}}
use Rattle.map.specs.Place.{place_at, place_of}
use Rattle.formulas.specs.Formula.{spot_of}
use Rattle.modes.specs.Model.{Valid}
use Rattle.modes.proofs.Accept.{ranged_by, setup_questions}
use Rattle.map.proofs.Law.{placing}
use Rattle.formulas.proofs.Alike.{Alike, alike_mod_3, alike_by_threes}
use Rattle.points.specs.Points.{point_at}
use Rattle.lengths.specs.Length.{grid_points}
use Rattle.grid.specs.{Row.column_position, Grid.{stands_at, Leaves, PlacedIn}}
use Rattle.lay.specs.Lay.{relaid, lay_of}
use Rattle.grid.proofs.Slot.{stands_lt, lit_holds, placed_there}
use Rattle.lay.proofs.Left.{lay_fits, lay_at}
use Rattle.places.specs.{Places.{PlaceRow, ask_places, place_row, places_of}, Law.PlaceLaw}
use Rattle.places.proofs.Answer.{row_is}

-- of an answer, whatever it is
number_of : (place : ℕ → ℕ) (answer : Answer (Unit {0})) → (place_row place answer).refusal ≡ refusal_of answer
number_of place (accepted tt) = refl
number_of place (refused k) = refl

long_of : (place : ℕ → ℕ) (answer : Answer (Unit {0})) → length (place_row place answer).places ≡ 48
long_of place (accepted tt) = length_tabulate 48 place
long_of place (refused k) = length_tabulate 48 _

same_row : (f g : ℕ → ℕ) → ((m : ℕ) → f m ≡ g m) → (answer : Answer (Unit {0})) → place_row f answer ≡ place_row g answer
same_row f g e (accepted tt) = ap (λ (x : List ℕ). record { refusal = 0; places = x }) (tabulated 0 (tabulate 48 f) 48 g (length_tabulate 48 f) (λ m h. get_d_tabulate 48 f m 0 h ∙ e m))
same_row f g e (refused k) = refl

module _ (setup : Setup) (slot s : ℕ) where
  abbrev asked : Answer (Unit {0})
  asked = ask_places setup slot s (accepted tt)

  abbrev row : List ℕ
  row = (places_of setup slot s).places

  row-number : (places_of setup slot s).refusal ≡ refusal_of asked
  unfolding places_of
  row-number = number_of (stands_at setup slot s) asked

  row_long : length row ≡ 48
  unfolding places_of
  row_long = long_of (stands_at setup slot s) asked

  abbrev questions : Questions
  questions = setup_questions setup ++ ((is_slot slot, 4) ∷ (is_subchannel setup s, 5) ∷ (is_lent setup, 20) ∷ [])

  pub refused_alike : (index : ℕ) → index < 48 → (places_of setup slot s).refusal ≡ refusal_of (place_of setup slot s index)
  unfolding place_of is_index
  refused_alike index h =
      rw (lt-ltb index 48 h) (row-number ∙ sym (ap refusal_of (all_numbered questions tt (accepted (place_at setup slot (spot_of setup slot s index)))) ∙ number_is _ _))

  -- in another slot of whose symbols the pilots are at the same places
  module _ (other : ℕ) (hs : slot < 512) (ho : other < 512) where
    same_asked : asked ≡ ask_places setup other s (accepted tt)
    unfolding is_slot
    same_asked = rw (lt-ltb slot 512 hs, lt-ltb other 512 ho)

    same_places : ((m : ℕ) → stands_at setup slot s m ≡ stands_at setup other s m) → places_of setup slot s ≡ places_of setup other s
    unfolding places_of
    same_places e = ap (place_row (stands_at setup slot s)) same_asked ∙ same_row (stands_at setup slot s) (stands_at setup other s) e (ask_places setup other s (accepted tt))

    by_pilots : Alike setup slot other → places_of setup slot s ≡ places_of setup other s
    unfolding stands_at spot_of used_of_data bin_pilot_place
    by_pilots e = same_places (λ m. simp e)

    -- or whose formula does not go by the slot
    in_every_slot : (setup.mode ≡ 0) ⊎ (setup.mode ≡ 7) → (m : ℕ) → stands_at setup slot s m ≡ stands_at setup other s m
    unfolding stands_at spot_of
    in_every_slot h m = ⊎_elim (λ z. rw z) (λ z. rw z) h

    same_always : (setup.mode ≡ 0) ⊎ ((setup.mode ≡ 7) ⊎ (symbols setup % 3 ≡ 0)) → places_of setup slot s ≡ places_of setup other s
    same_always h =
        ⊎_elim (λ z. same_places (in_every_slot (inl z)))
        (λ o. ⊎_elim (λ z. same_places (in_every_slot (inr z))) (λ z. by_pilots (alike_by_threes setup slot other z)) o) h

  module _ (v : Valid setup) (hs : slot < 512) (l : s < subchannels setup) where
    at : (index : ℕ) → index < 48 → entry row index ≡ stands_at setup slot s index
    at index h = entry_of row 48 (stands_at setup slot s) (ap (λ (x : PlaceRow). x.places) (row_is setup slot s v hs l)) index h

  in_grid : (index : ℕ) → (places_of setup slot s).refusal ≡ 0 → index < 48 → entry row index < grid_points setup
  unfolding is_slot is_subchannel
  in_grid index z h =
      let y = all_yes questions tt (sym row-number ∙ z) in
      let v : Valid setup = record { ranged = ranged_by setup y.0 y.1.0 y.1.1.0; is-lent = y.1.1.1.1.1.0 } in
      let l = ltb-true s (subchannels setup) y.1.1.1.1.0 in
      rw (at v (ltb-true slot 512 y.1.1.1.0) l index h) (stands_lt setup v slot s index l h)

  is_placed : (index symbol column : ℕ) → PlacedIn setup slot s index symbol column → entry row index ≡ column_position setup (symbol % symbols setup) column
  is_placed index symbol column e =
      let q = placing setup slot s index e in
      at q.is_valid q.slot_lt q.subchannel_lt index q.index_lt ∙ sym (placed_there setup slot s index symbol column e)

  laid_there : (mask : ℕ) (points grid next : List Float) → Leaves (lay_of setup mask slot s points grid) next
      → (index : ℕ) → index < 48 → point_at next (entry row index) ≡ point_at points index
  unfolding relaid
  laid_there mask points grid next e index h =
      let a = lay_fits setup mask slot s points grid next e in
      let v = a.fits.lit.valid in
      rw (at v a.fits.slot_lt a.subchannel_lt index h)
      (lay_at setup mask slot s points grid next e (stands_at setup slot s index) (stands_lt setup v slot s index a.subchannel_lt h)
      ∙ rw (lit_holds setup v slot s index a.subchannel_lt h mask a.subchannel_lit, eq-eqb s s refl))

pub place_law : (setup : Setup) (slot subchannel : ℕ) → PlaceLaw setup slot subchannel
place_law setup slot s =
    record {
      row_long = row_long setup slot s;
      is_placed = is_placed setup slot s;
      in_grid = in_grid setup slot s;
      refused_alike = refused_alike setup slot s;
      same_mod_3 = λ other hs ho e. by_pilots setup slot s other hs ho (alike_mod_3 setup slot other e);
      same_always = same_always setup slot s;
      laid_there = laid_there setup slot s;
    }
