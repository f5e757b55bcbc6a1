-- What a row of places comes to, by the numbers of its questions.
use Rattle.base.proofs.{Prelude.{◌≡◌, sym, ap, ◌∙◌, Bool, false, List, ℕ, ◌<◌}, Test.told_no, Tabulate.{tabulated, length_tabulate, get_d_tabulate}}
use Rattle.base.specs.{Answer.{accepted, refused}, Tabulate.tabulate}
use Rattle.modes.specs.{Setup.Setup, Mode.subchannels, Question.is_lent, Model.{Ranged, Valid}}
use Rattle.modes.proofs.Accept.{passes, slot_yes, subchannel_yes}
use Rattle.copies.specs.Model.{turned}
use Rattle.rows.specs.{declared.CarrierRow.CarrierRow, Model.RowOf}
use Rattle.grid.specs.Grid.{stands_at}
use Rattle.grid.proofs.Slot.{row_at}
use Rattle.std.specs.Result.{IsErrAnd}
use Rattle.std.proofs.lemmas.Result.{err_from_is_err_and}
use Rattle.std.proofs.Common.{Result}
use Rattle.refusal.specs.{declared.Refusal.Refusal, Refusal.number_of}
use Rattle.places.specs.Places.{PlaceRow, ask_places, place_row, places_of, given}

module _ (setup : Setup) (slot s : ℕ) where
  -- a refusal, with the zeros that go with it
  pub no_row : (r : Result (List ℕ) Refusal) (e : Refusal) → IsErrAnd r (λ y. y ≡ e) → refused (number_of e) ≡ ask_places {A = Unit {0}} setup slot s (accepted tt) → given r ≡ places_of setup slot s
  unfolding places_of
  no_row r e f h = let p = err_from_is_err_and r f in rw (p.1, p.2) (ap (place_row (stands_at setup slot s)) h)

  -- question 20 is the last
  pub row_not_lent : Ranged setup → slot < 512 → s < subchannels setup → (t : Bool) → t ≡ is_lent setup → t ≡ false → refused 20 ≡ ask_places {A = Unit {0}} setup slot s (accepted tt)
  row_not_lent v h l t e n = sym (passes v ∙ slot_yes _ slot h ∙ subchannel_yes _ setup s l ∙ rw (told_no t e n))

  module _ (v : Valid setup) (h : slot < 512) (l : s < subchannels setup) where
    pub row_is : places_of setup slot s ≡ record { refusal = 0; places = tabulate 48 (stands_at setup slot s) }
    unfolding places_of
    row_is =
        let lent : ask_places {A = Unit {0}} setup slot s (accepted tt) ≡ accepted tt = passes v.ranged ∙ slot_yes _ slot h ∙ subchannel_yes _ setup s l ∙ rw v.is-lent in
        ap (place_row (stands_at setup slot s)) lent

    -- the row that is worked out, in order
    pub row_done : (row : CarrierRow) → RowOf setup slot s row → (places : List ℕ) → places ≡ tabulate 48 (turned row.carriers row.shift) → ◌≡◌ {A = PlaceRow} (record { refusal = 0; places = places }) (places_of setup slot s)
    row_done row t places q =
        ap (λ (x : List ℕ). record { refusal = 0; places = x })
        (q ∙ tabulated 0 (tabulate 48 at) 48 (stands_at setup slot s) (length_tabulate 48 at) (λ m h. get_d_tabulate 48 at m 0 h ∙ row_at v slot s l row t m h))
        ∙ sym row_is
      where
        at : ℕ → ℕ
        at = turned row.carriers row.shift
