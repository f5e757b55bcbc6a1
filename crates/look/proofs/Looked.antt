-- Look: what a column holds and whether it is lit decide what is seen.
use Rattle.base.proofs.Prelude.{◌≡◌, refl, sym, ap, ◌∙◌, Bool, true, false, List, ℕ, ◌%◌, ◌<◌, arith, length}
use Rattle.base.proofs.Chain.{same_accepted, yes_all, no_first, number_none}
use lib.{IntN.ℤ, Ieee.Float}
use Rattle.base.specs.{Choice.pick, Answer.{Answer, accepted, refused}}
use Rattle.std.specs.Result.{IsErrAnd}
use Rattle.std.proofs.lemmas.Result.{err_from_is_err_and}
use Rattle.std.proofs.Common.{Result}
use Rattle.refusal.specs.{declared.Refusal.Refusal, Refusal.number_of}
use Rattle.look.specs.declared.Seen.{Seen}
use Rattle.carriers.specs.Band.{used_of}
use Rattle.centre.specs.Centre.{on_row}
use Rattle.modes.specs.{Setup.Setup, Mode.{symbols, band}, Question.is_carrier}
use Rattle.map.specs.Place.{Content, guard, dc, pilot, point, content_of, locate_of}
use Rattle.modes.proofs.Whole.{centred}
use Rattle.map.proofs.Law.{locate_accepts}
use Rattle.mask.specs.Mask.{is_used_lit, lit_content}
use Rattle.points.specs.{declared.Point.Point, Points.point_at}
use Rattle.questions.specs.Model.{look_refusal}
use Rattle.questions.proofs.Refusal.{LookAccepted, look_numbered, look_accepted}
use Rattle.grid.specs.Row.{column_position}
use Rattle.look.specs.Look.{Sight, data_with, seen, sight, look_of}

-- what `?` hands on, as an answer
pub seen_on : (r : Result Seen Refusal) (e : Refusal) → IsErrAnd r (λ y. y ≡ e) → (a : Answer Sight) → refused (number_of e) ≡ a → seen r ≡ a
seen_on r e f a h = let p = err_from_is_err_and r f in rw (p.1, p.2) h

-- ---- the whole call, whose questions are asked about k, which is the carrier

module _ (setup : Setup) (mask symbol : ℕ) (carrier k : ℤ) (same : k ≡ carrier) (grid : List Float) (n : ℕ) (e : n ≡ look_refusal setup mask symbol k (length grid)) where
  number : n ≡ look_refusal setup mask symbol carrier (length grid)
  number = e ∙ ap (λ (x : ℤ). look_refusal setup mask symbol x (length grid)) same

  pub look_refused : (n ≡ 0 → ⊥) → refused n ≡ look_of setup mask symbol grid carrier
  unfolding look_of
  look_refused ne = sym (look_numbered setup mask symbol carrier (length grid) _ ∙ rw (← number) (no_first n _ ne))

  module _ (z : n ≡ 0) where
    pub look_asked : LookAccepted setup mask symbol k (length grid)
    look_asked = look_accepted setup mask symbol k (length grid) n e z

    pub look_column : (j : ℕ) → j ≡ on_row setup.size k → j < setup.size
    look_column j f = rw f ((centred look_asked.lit.valid.ranged).0.column_lt k look_asked.in-range)

    pub look_done : (j : ℕ) → j ≡ on_row setup.size k → (place : ℕ) → place ≡ column_position setup (symbol % symbols setup) j
        → (p : Point) → p ≡ point_at grid place → (a : Sight) → a ≡ sight p (lit_content setup mask symbol j) → accepted a ≡ look_of setup mask symbol grid carrier
    unfolding look_of
    look_done j f place at p g a h =
        let on : j ≡ on_row setup.size carrier = f ∙ ap (on_row setup.size) same in
        ap accepted h ∙ ap (λ (x : Point). accepted (sight x (lit_content setup mask symbol j))) (g ∙ ap (point_at grid) at)
        ∙ ap (λ (x : ℕ). accepted (sight (point_at grid (column_position setup (symbol % symbols setup) x)) (lit_content setup mask symbol x))) on
        ∙ sym (look_numbered setup mask symbol carrier (length grid) _ ∙ yes_all _ _ (sym number ∙ z))

-- what look tells of a point is what the reverse tells
pub look_point : (setup : Setup) (mask symbol : ℕ) (carrier : ℤ) (grid : List Float) (p : Point) (slot s m : ℕ) → accepted (data_with p slot s m) ≡ look_of setup mask symbol grid carrier
    → locate_of setup symbol carrier ≡ accepted (point slot s m)
unfolding look_of lit_content sight is_carrier
look_point setup mask symbol carrier grid p slot s m e =
    let number = look_refusal setup mask symbol carrier (length grid) in
    let q = number_none number _ (sym (look_numbered setup mask symbol carrier (length grid) _) ∙ sym e) in
    let a = look_accepted setup mask symbol carrier (length grid) number refl q.0 in
    let column = on_row setup.size carrier in
    locate_accepts setup symbol carrier a.lit.valid a.symbol_lt a.in-range
    ∙ ap accepted (told (is_used_lit setup mask (used_of (band setup) column)) _ (content_of setup symbol column) (same_accepted q.1))
  where
    told : (lit : Bool) (there : Point) (w : Content) → sight there (pick lit w guard) ≡ data_with p slot s m → w ≡ point slot s m
    told false there w h = absurd (let z : ◌≡◌ {A = ℕ} 0 1 = cc in omega arith)
    told true there guard h = absurd (let z : ◌≡◌ {A = ℕ} 0 1 = cc in omega arith)
    told true there dc h = absurd (let z : ◌≡◌ {A = ℕ} 0 1 = cc in omega arith)
    told true there pilot h = absurd (let z : ◌≡◌ {A = ℕ} 0 1 = cc in omega arith)
    told true there (point a b d) h = cc
