-- Emptying only the first carriers of a grid.
use Rattle.base.proofs.Prelude.{◌≡◌, refl, sym, ap, ◌∙◌, List, ℕ, ◌*◌, ◌<◌, ◌≤◌, arith, eqb, ltb, length, eqb-true, eqb-false, ltb-false, le-ltb}
use Rattle.base.proofs.Test.{cases}
use lib.Ieee.{Float}
use Rattle.base.specs.Answer.{accepted}
use Rattle.modes.specs.Setup.{Setup}
use Rattle.mask.specs.Mask.{lit_subchannels}
use Rattle.points.specs.{declared.Point.Point, Points.{point_at, floats_of}}
use Rattle.points.proofs.Points.{length_floats, point_floats, by_points}
use Rattle.lengths.specs.Length.{grid_points}
use Rattle.questions.specs.{Question.ask_empty, Model.empty_refusal}
use Rattle.questions.proofs.Refusal.{EmptyAccepted, empty_numbered, empty_accepted}
use Rattle.grid.specs.Grid.{Outcome, outcome, Leaves}
use Rattle.empty.specs.Empty.{lit_stands_at, empty_of, emptied_first, empty_first_of}
use Rattle.grid.proofs.Outcome.{left, refused_leaves, accepted_anew}
use Rattle.empty.proofs.Rows.{by_count, first_all}

module _ (setup : Setup) (mask slot : ℕ) (grid points : List Float) where
  abbrev lit : ℕ
  lit = lit_subchannels setup mask

  abbrev first : (carriers : ℕ) → List Float
  first carriers = emptied_first setup mask slot carriers grid points

  first_long : (carriers : ℕ) → length (first carriers) ≡ 96 * lit
  unfolding emptied_first
  first_long carriers = length_floats (48 * lit) (by_count setup mask slot grid carriers points) ∙ omega arith

  first_at : (carriers n : ℕ) → n < 48 * lit → point_at (first carriers) n ≡ by_count setup mask slot grid carriers points n
  unfolding emptied_first
  first_at carriers n h = point_floats (48 * lit) (by_count setup mask slot grid carriers points) n h

  -- none is taken
  none_first : length points ≡ 96 * lit → first 0 ≡ points
  unfolding emptied_first
  none_first long =
      sym (by_points points (48 * lit) (by_count setup mask slot grid 0 points) (omega arith) (λ n h. rw (le-ltb (lit_stands_at setup mask slot n) 0 (omega arith))))

  -- ---- the outcome, of empty and of this alike

  abbrev number : ℕ
  number = empty_refusal setup mask slot (length points) (length grid)

  abbrev leaving : (new : List Float) → Outcome
  leaving new = outcome (ask_empty setup mask slot (length points) (length grid) (accepted new)) points

  accepted_leaves : (new : List Float) → number ≡ 0 → leaving new ≡ record { refusal = 0; buffer = new }
  accepted_leaves new z = sym (accepted_anew _ _ _ (empty_numbered setup mask slot (length points) (length grid) (accepted new)) points z new refl)

  refused_keeps : (new : List Float) → (number ≡ 0 → ⊥) → leaving new ≡ record { refusal = number; buffer = points }
  refused_keeps new ne = sym (refused_leaves _ _ _ (empty_numbered setup mask slot (length points) (length grid) (accepted new)) points number refl ne)

  fits : number ≡ 0 → EmptyAccepted setup mask slot (length points) (length grid)
  fits z = empty_accepted setup mask slot (length points) (length grid) number refl z

  by_number : {A : Type 0} → (number ≡ 0 → A) → ((number ≡ 0 → ⊥) → A) → A
  by_number f g = cases (eqb number 0) (λ t. f (eqb-true number 0 t)) (λ t. g (eqb-false number 0 t))

  leaving_number : (new : List Float) → (leaving new).refusal ≡ number
  leaving_number new =
      by_number
      (λ z. ap (λ (o : Outcome). o.refusal) (accepted_leaves new z) ∙ sym z)
      (λ ne. ap (λ (o : Outcome). o.refusal) (refused_keeps new ne))

  pub refused_alike : (carriers : ℕ) → (empty_first_of setup mask slot carriers grid points).refusal ≡ (empty_of setup mask slot grid points).refusal
  unfolding empty_first_of empty_of
  refused_alike carriers = leaving_number _ ∙ sym (leaving_number _)

  pub of_all : (carriers : ℕ) → grid_points setup ≤ carriers → empty_first_of setup mask slot carriers grid points ≡ empty_of setup mask slot grid points
  unfolding empty_first_of empty_of
  of_all carriers enough =
      by_number
      (λ z. ap leaving (first_all setup (fits z).fits.lit.valid mask slot carriers grid points enough))
      (λ ne. refused_keeps _ ne ∙ sym (refused_keeps _ ne))

  pub of_none : (empty_first_of setup mask slot 0 grid points).buffer ≡ points
  unfolding empty_first_of
  of_none =
      by_number
      (λ z. ap (λ (o : Outcome). o.buffer) (accepted_leaves _ z) ∙ none_first (fits z).points_long)
      (λ ne. ap (λ (o : Outcome). o.buffer) (refused_keeps _ ne))

  -- an accepted call
  module _ (carriers : ℕ) (next : List Float) (e : Leaves (empty_first_of setup mask slot carriers grid points) next) where
    left_first : (number ≡ 0) × (next ≡ first carriers)
    unfolding empty_first_of
    left_first = left _ _ _ (empty_numbered setup mask slot (length points) (length grid) (accepted (first carriers))) _ next e

    pub left_at : (n : ℕ) → n < 48 * lit → point_at next n ≡ by_count setup mask slot grid carriers points n
    left_at n h = ap (λ (l : List Float). point_at l n) left_first.1 ∙ first_at carriers n h

-- a first count, and then a larger one, of a grid that more has come into since
module _ (setup : Setup) (mask slot : ℕ) (earlier grid points : List Float) (alike : length earlier ≡ length grid) (fewer more : ℕ) (l : fewer ≤ more) where
  abbrev before : List Float
  before = emptied_first setup mask slot fewer earlier points

  -- what the smaller count takes, the larger one takes too
  more_first : emptied_first setup mask slot more grid before ≡ emptied_first setup mask slot more grid points
  unfolding emptied_first
  more_first =
      by_points (floats_of (48 * all) again) (48 * all) (by_count setup mask slot grid more points) (length_floats (48 * all) again) (λ n h. point_floats (48 * all) again n h ∙ same n h)
    where
      all : ℕ
      all = lit_subchannels setup mask

      again : ℕ → Point
      again = by_count setup mask slot grid more before

      same : (n : ℕ) → n < 48 * all → again n ≡ by_count setup mask slot grid more points n
      same n h =
          let at = lit_stands_at setup mask slot n in
          cases (ltb at more)
          (λ t. rw t)
          (λ t. let past = ltb-false at more t in rw t (first_at setup mask slot earlier points fewer n h ∙ rw (le-ltb at fewer (omega arith))))

  pub then_more : empty_first_of setup mask slot more grid (empty_first_of setup mask slot fewer earlier points).buffer ≡ empty_first_of setup mask slot more grid points
  unfolding empty_first_of
  then_more =
      by_number setup mask slot grid points
      (λ z. let z₀ : empty_refusal setup mask slot (length points) (length earlier) ≡ 0 = rw alike z in
      let same : length before ≡ length points = first_long setup mask slot earlier points fewer ∙ sym (fits setup mask slot grid points z).points_long in
      let z' : empty_refusal setup mask slot (length before) (length grid) ≡ 0 = rw same z in
      let asked = empty_numbered setup mask slot (length before) (length grid) (accepted (emptied_first setup mask slot more grid before)) in
      ap next (accepted_leaves setup mask slot earlier points _ z₀)
      ∙ sym (accepted_anew _ _ _ asked before z' (emptied_first setup mask slot more grid points) (sym more_first))
      ∙ sym (accepted_leaves setup mask slot grid points _ z))
      (λ ne. ap next (refused_keeps setup mask slot earlier points _ (λ z₀. ne (rw (← alike) z₀))))
    where
      next : Outcome → Outcome
      next o = empty_first_of setup mask slot more grid o.buffer
