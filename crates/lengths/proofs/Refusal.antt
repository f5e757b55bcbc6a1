-- A slot's grid is small; and what questions 1, 2, 3 and 17 come to.
use Rattle.base.proofs.Prelude.{◌≡◌, refl, sym, ap, ◌∙◌, true, [], ◌∷◌, ◌++◌, ℕ, ◌*◌, ◌<◌, ◌≤◌, mul-le-mul, arith}
use Rattle.base.proofs.Chain.{Questions, AllYes, all_yes, is_refused, has_passed}
use Rattle.base.specs.Answer.{Answer, refusal_of}
use Rattle.modes.specs.{Setup.Setup, Mode.symbols, Question.{is_mode, is_size, is_cell}, Model.{Ranged, Valid}}
use Rattle.modes.proofs.{Accept.{ranged_by, passes, setup_questions}, ByMode.few}
use Rattle.mask.specs.Mask.{is_mask}
use Rattle.mask.proofs.Law.{mask_small}
use Rattle.lengths.specs.{Length.{grid_points_of, grid_points}, Question.ask_mask, Model.{mask_refusal_at, mask_refusal}}

-- a slot's grid is small
pub grid_few : {setup : Setup} → Ranged setup → grid_points setup ≤ 12288
unfolding grid_points_of
grid_few {setup} v = mul-le-mul {n₁ = symbols setup} {m₁ = setup.size} {n₂ = 6} {m₂ = 2048} (few v).symbols_few (few v).size_few

pub grid_is : {setup : Setup} → Ranged setup → (n : ℕ) → n ≡ symbols setup → (n * setup.size ≡ grid_points setup) × (n * setup.size < 65536)
unfolding grid_points_of
grid_is v n e = let few = grid_few v in rw e (refl, omega arith)

-- ---- questions 1, 2, 3 and 17

-- as a list
abbrev pub mask_questions : (setup : Setup) (mask : ℕ) → Questions
mask_questions setup mask = setup_questions setup ++ ((is_mask setup.mode mask, 17) ∷ [])

-- what they let pass

pub record MaskRanged (setup : Setup) (mask : ℕ) : Type 0 where
  pub ranged : Ranged setup
  pub mask_is : is_mask setup.mode mask ≡ true

-- and with 20
pub record MaskAccepted (setup : Setup) (mask : ℕ) : Type 0 where
  pub valid : Valid setup
  pub mask_is : is_mask setup.mode mask ≡ true

-- an accepted mask is small
pub mask_few : {setup : Setup} {mask : ℕ} → MaskAccepted setup mask → mask < 64
mask_few {setup} {mask} a = mask_small setup.mode mask a.mask_is

module _ (setup : Setup) (mask : ℕ) where
  pub mask_own : AllYes (mask_questions setup mask) → MaskRanged setup mask
  mask_own y = record { ranged = ranged_by setup y.0 y.1.0 y.1.1.0; mask_is = y.1.1.1.0 }

  pub mask_passes : {A : Type 0} {rest : Answer A} → MaskAccepted setup mask → ask_mask setup mask rest ≡ rest
  mask_passes a = passes a.valid.ranged ∙ rw a.mask_is

  -- by the number that a function gave
  module _ (k : ℕ) (e : k ≡ mask_refusal setup mask) where
    pub mask_passed : k ≡ 0 → MaskRanged setup mask
    unfolding mask_refusal_at is_mode is_size is_cell
    mask_passed z = mask_own (all_yes (mask_questions setup mask) tt (sym e ∙ z))

    pub mask_ranged : k ≡ 0 → Ranged setup
    mask_ranged z = (mask_passed z).ranged

    pub mask_now_few : k ≡ 0 → mask < 64
    mask_now_few z = mask_small setup.mode mask (mask_passed z).mask_is

    module _ (rest : Answer (Unit {0})) where
      pub mask_no : (k ≡ 0 → ⊥) → k ≡ refusal_of (ask_mask setup mask rest)
      unfolding mask_refusal_at is_mode is_size is_cell
      mask_no ne = ap refusal_of (is_refused (mask_questions setup mask) tt rest k e ne)

      pub mask_then : k ≡ 0 → (n : ℕ) → n ≡ refusal_of rest → n ≡ refusal_of (ask_mask setup mask rest)
      unfolding mask_refusal_at is_mode is_size is_cell
      mask_then z n f = f ∙ ap refusal_of (has_passed (mask_questions setup mask) tt rest k e z)
