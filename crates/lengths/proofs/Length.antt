-- The lengths by mode and size. Cell 0 is a cell of every listed mode and size, so the first refusal with it tells whether the map has them.
use Rattle.base.proofs.{Prelude.{◌≡◌, refl, ap, ◌∙◌, ℕ, ◌*◌, lt-ltb}, Test.cases}
use Rattle.modes.specs.{Setup.{Setup, setup_with}, Mode.{width_of, cells, subchannels_of, symbols_of}, Question.{is_listed, is_mode, is_size_of, is_size, is_cell}}
use Rattle.modes.specs.Model.{refusal_at, setup_refusal, Ranged}
use Rattle.modes.proofs.Accept.{some_cell, setup_yes}
use Rattle.mask.specs.Mask.{is_mask, is_lit_of, lit_subchannels, all_lit}
use Rattle.mask.proofs.Law.{mask_law}
use Rattle.lengths.specs.{Length.{grid_points_of, grid_points, where_listed, points_length, lit_points_length, grid_length}, Model.{mask_refusal_at, mask_refusal}}
use Rattle.lengths.proofs.Refusal.{MaskAccepted, mask_passed}

pub listed : {setup : Setup} → Ranged setup → {n length : ℕ} → n ≡ length → n ≡ where_listed setup.mode setup.size length
unfolding is_mode is_size
listed v e = let y = setup_yes v in rw (y.1.0, y.0) e

none_listed : (mode size : ℕ) → 0 ≡ where_listed mode size 0
none_listed mode size = cases (is_listed mode) (λ a. cases (is_size_of mode size) (λ b. rw (b, a)) (λ b. rw (b, a))) (λ a. rw a)

pub unlisted : (mode size k : ℕ) → k ≡ setup_refusal (setup_with mode size 0) → (length : ℕ) → (k ≡ 0 → ⊥) → 0 ≡ where_listed mode size length
unfolding refusal_at is_mode is_size is_cell
unlisted mode size k e length ne =
    cases (is_listed mode)
    (λ a. cases (is_size_of mode size)
    (λ b. absurd (ne (e ∙ rw (b, a, lt-ltb 0 (cells (setup_with mode size 0)) (some_cell mode size a b)))))
    (λ b. rw (b, a)))
    (λ a. rw a)

-- the lit points' by the refusal with the mask
module _ (mode size mask k : ℕ) (e : k ≡ mask_refusal (setup_with mode size 0) mask) where
  pub no_lit_length : (k ≡ 0 → ⊥) → 0 ≡ lit_points_length mode size mask
  unfolding lit_points_length mask_refusal_at refusal_at
  no_lit_length ne =
      cases (is_mask mode mask)
      (λ t. rw t (unlisted mode size k (rw t at e) (96 * lit_subchannels (setup_with mode size 0) mask) ne))
      (λ t. rw t (none_listed mode size))

  pub lit_length : k ≡ 0 → (n : ℕ) → n ≡ lit_subchannels (setup_with mode size 0) mask → 96 * n ≡ lit_points_length mode size mask
  unfolding lit_points_length
  lit_length z n q = let a = mask_passed (setup_with mode size 0) mask k e z in listed a.ranged (rw a.mask_is (ap (λ (x : ℕ). 96 * x) q))

-- the lengths of an accepted setup and mask, whatever the cell
pub lengths_listed : {setup : Setup} {mask : ℕ} → MaskAccepted setup mask
    → (96 * lit_subchannels setup mask ≡ lit_points_length setup.mode setup.size mask) × (2 * grid_points setup ≡ grid_length setup.mode setup.size)
unfolding lit_points_length grid_length is_lit_of subchannels_of grid_points_of symbols_of width_of
lengths_listed m = (listed m.valid.ranged (rw m.mask_is), listed m.valid.ranged refl)

-- where all is lit, the lit points are all points
pub all_lit_length : (mode size : ℕ) → lit_points_length mode size (all_lit mode) ≡ points_length mode size
unfolding lit_points_length points_length
all_lit_length mode size = rw (mask_law.all_passes mode, mask_law.all_subchannels (setup_with mode size 0))
