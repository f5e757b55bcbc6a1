-- What the questions of ground, empty and look come to.
use Rattle.base.proofs.Prelude.{◌≡◌, sym, ap, ◌∙◌, true, [], ◌∷◌, ◌++◌, ℕ, ◌*◌, ◌<◌, lt-ltb, eq-eqb, ltb-true, eqb-true}
use Rattle.base.proofs.Chain.{numbered, Questions, AllYes, all_numbered, all_yes, yes_parts, is_refused, has_passed}
use lib.IntN.{ℤ}
use Rattle.base.specs.Answer.{Answer, refusal_of}
use Rattle.centre.specs.Centre.{in_range}
use Rattle.modes.specs.{Setup.Setup, Mode.symbols, Question.{is_slot, is_symbol, is_carrier, is_lent, is_mode, is_size, is_cell}, Model.Ranged}
use Rattle.mask.specs.Mask.{lit_subchannels}
use Rattle.mask.proofs.Law.{mask_small}
use Rattle.lengths.specs.Length.{grid_points}
use Rattle.lengths.proofs.Refusal.{mask_questions, MaskRanged, MaskAccepted, mask_own, mask_passes}
use Rattle.questions.specs.Question.{are_points, is_grid, ask_slot, ask_ground, ask_empty, ask_look}
use Rattle.questions.specs.Model.{slot_refusal_at, slot_refusal, ground_refusal, empty_refusal, look_refusal}

-- ---- 1, 2, 3, 17 and 4

-- as a list
abbrev pub slot_questions : (setup : Setup) (mask slot : ℕ) → Questions
slot_questions setup mask slot = mask_questions setup mask ++ ((is_slot slot, 4) ∷ [])

-- with 20 too
lent_too : {setup : Setup} {mask : ℕ} → MaskRanged setup mask → is_lent setup ≡ true → MaskAccepted setup mask
lent_too a e = record { valid = record { ranged = a.ranged; is-lent = e }; mask_is = a.mask_is }

module _ (setup : Setup) (mask slot : ℕ) where
  slot_own : AllYes (slot_questions setup mask slot) → MaskRanged setup mask × (slot < 512)
  unfolding is_slot
  slot_own y = let p = yes_parts (mask_questions setup mask) ((is_slot slot, 4) ∷ []) y in (mask_own setup mask p.0, ltb-true slot 512 p.1.0)

  module _ (k : ℕ) (e : k ≡ slot_refusal setup mask slot) where
    slot_passed : k ≡ 0 → MaskRanged setup mask
    unfolding slot_refusal_at is_mode is_size is_cell
    slot_passed z = (slot_own (all_yes (slot_questions setup mask slot) tt (sym e ∙ z))).0

    pub slot_ranged : k ≡ 0 → Ranged setup
    slot_ranged z = (slot_passed z).ranged

    pub slot_now_few : k ≡ 0 → mask < 64
    slot_now_few z = mask_small setup.mode mask (slot_passed z).mask_is

    module _ (rest : Answer (Unit {0})) where
      pub slot_no : (k ≡ 0 → ⊥) → k ≡ refusal_of (ask_slot setup mask slot rest)
      unfolding slot_refusal_at is_mode is_size is_cell
      slot_no ne = ap refusal_of (is_refused (slot_questions setup mask slot) tt rest k e ne)

      pub slot_then : k ≡ 0 → (n : ℕ) → n ≡ refusal_of rest → n ≡ refusal_of (ask_slot setup mask slot rest)
      unfolding slot_refusal_at is_mode is_size is_cell
      slot_then z n f = f ∙ ap refusal_of (has_passed (slot_questions setup mask slot) tt rest k e z)

-- ---- ground

-- 0 is a request whose fields are all in range
pub record GroundAccepted (setup : Setup) (mask slot grid : ℕ) : Type 0 where
  pub lit : MaskAccepted setup mask
  pub slot_lt : slot < 512
  pub grid_long : grid ≡ 2 * grid_points setup

-- by the first questions and the last
pub grid_accepted : {setup : Setup} {mask slot : ℕ} (grid : ℕ) → AllYes (slot_questions setup mask slot) → is_lent setup ≡ true → is_grid setup grid ≡ true → GroundAccepted setup mask slot grid
unfolding is_grid
grid_accepted {setup} {mask} {slot} grid y l e =
    let first = slot_own setup mask slot y in
    record { lit = lent_too first.0 l; slot_lt = first.1; grid_long = eqb-true grid (2 * grid_points setup) e }

module _ (setup : Setup) (mask slot grid : ℕ) where
  abbrev ground_own : Questions
  ground_own = (is_lent setup, 20) ∷ (is_grid setup grid, 9) ∷ []

  pub ground_numbered : {A : Type 0} (rest : Answer A) → ask_ground setup mask slot grid rest ≡ numbered (ground_refusal setup mask slot grid) rest
  unfolding ground_refusal
  ground_numbered = all_numbered (slot_questions setup mask slot ++ ground_own) tt

  pub ground_accepted : (k : ℕ) → k ≡ ground_refusal setup mask slot grid → k ≡ 0 → GroundAccepted setup mask slot grid
  unfolding ground_refusal
  ground_accepted k e z = let y = yes_parts (slot_questions setup mask slot) ground_own (all_yes (slot_questions setup mask slot ++ ground_own) tt (sym e ∙ z)) in grid_accepted grid y.0 y.1.0 y.1.1.0

  pub ground_0 : GroundAccepted setup mask slot grid → 0 ≡ ground_refusal setup mask slot grid
  unfolding ground_refusal is_slot is_grid
  ground_0 a = rw (lt-ltb slot 512 a.slot_lt, a.lit.valid.is-lent, eq-eqb grid (2 * grid_points setup) a.grid_long) (sym (ap refusal_of (mask_passes setup mask a.lit)))

-- ---- empty

pub record EmptyAccepted (setup : Setup) (mask slot points grid : ℕ) : Type 0 where
  pub fits : GroundAccepted setup mask slot grid
  pub points_long : points ≡ 96 * lit_subchannels setup mask

module _ (setup : Setup) (mask slot points grid : ℕ) where
  abbrev empty_own : Questions
  empty_own = (is_lent setup, 20) ∷ (are_points setup mask points, 8) ∷ (is_grid setup grid, 9) ∷ []

  pub empty_numbered : {A : Type 0} (rest : Answer A) → ask_empty setup mask slot points grid rest ≡ numbered (empty_refusal setup mask slot points grid) rest
  unfolding empty_refusal
  empty_numbered = all_numbered (slot_questions setup mask slot ++ empty_own) tt

  pub empty_accepted : (k : ℕ) → k ≡ empty_refusal setup mask slot points grid → k ≡ 0 → EmptyAccepted setup mask slot points grid
  unfolding empty_refusal are_points
  empty_accepted k e z =
      let y = yes_parts (slot_questions setup mask slot) empty_own (all_yes (slot_questions setup mask slot ++ empty_own) tt (sym e ∙ z)) in
      record { fits = grid_accepted grid y.0 y.1.0 y.1.1.1.0; points_long = eqb-true points (96 * lit_subchannels setup mask) y.1.1.0 }

  pub empty_0 : EmptyAccepted setup mask slot points grid → 0 ≡ empty_refusal setup mask slot points grid
  unfolding empty_refusal is_slot are_points is_grid
  empty_0 a =
      rw (lt-ltb slot 512 a.fits.slot_lt, a.fits.lit.valid.is-lent, eq-eqb points (96 * lit_subchannels setup mask) a.points_long, eq-eqb grid (2 * grid_points setup) a.fits.grid_long)
      (sym (ap refusal_of (mask_passes setup mask a.fits.lit)))

-- ---- look

pub record LookAccepted (setup : Setup) (mask symbol : ℕ) (carrier : ℤ) (grid : ℕ) : Type 0 where
  pub lit : MaskAccepted setup mask
  pub symbol_lt : symbol < 512 * symbols setup
  pub in-range : in_range setup.size carrier ≡ true
  pub grid_long : grid ≡ 2 * grid_points setup

module _ (setup : Setup) (mask symbol : ℕ) (carrier : ℤ) (grid : ℕ) where
  abbrev look_own : Questions
  look_own = (is_symbol setup symbol, 4) ∷ (is_carrier setup carrier, 7) ∷ (is_lent setup, 20) ∷ (is_grid setup grid, 9) ∷ []

  pub look_numbered : {A : Type 0} (rest : Answer A) → ask_look setup mask symbol carrier grid rest ≡ numbered (look_refusal setup mask symbol carrier grid) rest
  unfolding look_refusal
  look_numbered = all_numbered (mask_questions setup mask ++ look_own) tt

  pub look_accepted : (k : ℕ) → k ≡ look_refusal setup mask symbol carrier grid → k ≡ 0 → LookAccepted setup mask symbol carrier grid
  unfolding look_refusal is_symbol is_carrier is_grid
  look_accepted k e z =
      let y = yes_parts (mask_questions setup mask) look_own (all_yes (mask_questions setup mask ++ look_own) tt (sym e ∙ z)) in
      record {
        lit = lent_too (mask_own setup mask y.0) y.1.1.1.0;
        symbol_lt = ltb-true symbol (512 * symbols setup) y.1.0;
        in-range = y.1.1.0;
        grid_long = eqb-true grid (2 * grid_points setup) y.1.1.1.1.0;
      }

  pub look_0 : LookAccepted setup mask symbol carrier grid → 0 ≡ look_refusal setup mask symbol carrier grid
  unfolding look_refusal is_symbol is_carrier is_grid
  look_0 a = rw (lt-ltb symbol (512 * symbols setup) a.symbol_lt, a.in-range, a.lit.valid.is-lent, eq-eqb grid (2 * grid_points setup) a.grid_long) (sym (ap refusal_of (mask_passes setup mask a.lit)))
