-- A choice by the mode, and AMC's modes and shapes.
use Rattle.base.proofs.Prelude.{◌≡◌, refl, sym, ◌∙◌, Bool, true, false, ℕ, zero, suc, ◌<◌, ◌≤◌, arith, eqb, leb, ltb, ne_eqb, eqb-true, eqb-false}
use Rattle.base.proofs.Prelude.{ltb-true, ltb-false, lt-ltb, le-ltb}
use Rattle.base.proofs.Test.{cases, true_false, both_true}
use borrow.Author.Tests.{leb-true, le-leb}
use Rattle.base.specs.Choice.{pick}
use Rattle.amc.specs.Model.{IsShape}
use Rattle.modes.specs.{Mode.{is_amc, shape_of, by_mode}, Model.{IsListed, OverBins, is_over_bins, IsAmc}}

-- each of AMC's shapes has six bins in all
pub amc_shape : (mode : ℕ) → IsAmc mode → IsShape (shape_of mode)
unfolding shape_of
amc_shape zero h = absurd (omega arith)
amc_shape (suc zero) h = absurd (omega arith)
amc_shape (suc (suc zero)) h = absurd (omega arith)
amc_shape (suc (suc (suc zero))) h = refl
amc_shape (suc (suc (suc (suc zero)))) h = refl
amc_shape (suc (suc (suc (suc (suc zero))))) h = refl
amc_shape (suc (suc (suc (suc (suc (suc zero)))))) h = refl
amc_shape (suc (suc (suc (suc (suc (suc (suc mode))))))) h = absurd (omega arith)

-- ---- what a test of the mode says, as the code makes it

-- a mode from a first one to AMC's last
from : (least mode : ℕ) → pick (leb least mode) (ltb mode 7) false ≡ true → (least ≤ mode) × (mode < 7)
from least mode e = let t = both_true (leb least mode) (ltb mode 7) e in (leb-true least mode t.0, ltb-true mode 7 t.1)

not_from : (least mode : ℕ) → pick (leb least mode) (ltb mode 7) false ≡ false → (least ≤ mode) × (mode < 7) → ⊥
not_from least mode e q = true_false (rw (le-leb least mode q.0, lt-ltb mode 7 q.1) at e)

module _ {mode : ℕ} (t : Bool) where
  pub told_amc : t ≡ is_amc mode → t ≡ true → IsAmc mode
  told_amc e y = from 3 mode (sym e ∙ y)

  pub told_bins : t ≡ is_over_bins mode → t ≡ true → OverBins mode
  told_bins e y = from 2 mode (sym e ∙ y)

  -- a mode before AMC's
  pub told_early : t ≡ is_amc mode → t ≡ false → mode < 7 → mode < 3
  told_early e y l = cases (ltb mode 3) (ltb-true mode 3) (λ n. absurd (not_from 3 mode (sym e ∙ y) (omega (arith, ltb-false mode 3 n))))

  -- past AMC's modes
  module _ (n₀ : mode ≡ 0 → ⊥) (n₁ : mode ≡ 1 → ⊥) where
    pub past_amc : (mode ≡ 2 → ⊥) → t ≡ is_amc mode → t ≡ false → 7 ≤ mode
    past_amc n₂ e y = cases (ltb mode 7) (λ l. absurd (not_from 3 mode (sym e ∙ y) (omega (arith, ltb-true mode 7 l)))) (ltb-false mode 7)

    pub past_bins : t ≡ is_over_bins mode → t ≡ false → 7 ≤ mode
    past_bins e y = cases (ltb mode 7) (λ l. absurd (not_from 2 mode (sym e ∙ y) (omega (arith, ltb-true mode 7 l)))) (ltb-false mode 7)

  -- none of the modes by name
  module _ (n₀ : mode ≡ 0 → ⊥) (n₁ : mode ≡ 1 → ⊥) (n₇ : mode ≡ 7 → ⊥) where
    pub unlisted_amc : (mode ≡ 2 → ⊥) → t ≡ is_amc mode → t ≡ false → IsListed mode → ⊥
    unlisted_amc n₂ e y l = not_from 3 mode (sym e ∙ y) (omega arith)

    pub unlisted_bins : t ≡ is_over_bins mode → t ≡ false → IsListed mode → ⊥
    unlisted_bins e y l = not_from 2 mode (sym e ∙ y) (omega arith)

pub amc_below : (mode : ℕ) → (mode ≡ 0 → ⊥) → (mode ≡ 1 → ⊥) → (mode ≡ 2 → ⊥) → mode < 7 → IsAmc mode
amc_below mode n₀ n₁ n₂ h = omega arith

pub past_listed : (mode : ℕ) → 8 ≤ mode → IsListed mode → ⊥
past_listed mode h l = omega arith

pub amc_not_0 : {mode : ℕ} → IsAmc mode → eqb mode 0 ≡ false
amc_not_0 {mode} q = ne_eqb mode 0 (λ e. omega arith)

-- ---- WHAT A MODE HAS of a column of the table, by what is known of the mode

pub data Has {A : Type 0} (mode : ℕ) (dl ul spread adjacent full other : A) : A → Type 0 where
  at_0 : mode ≡ 0 → Has mode dl ul spread adjacent full other dl
  at_1 : mode ≡ 1 → Has mode dl ul spread adjacent full other ul
  at_2 : mode ≡ 2 → Has mode dl ul spread adjacent full other spread
  at_amc : IsAmc mode → Has mode dl ul spread adjacent full other adjacent
  at_7 : mode ≡ 7 → Has mode dl ul spread adjacent full other full
  at_none : (IsListed mode → ⊥) → Has mode dl ul spread adjacent full other other

-- modes 2 to 6 alike
pub at_bins : {A : Type 0} {mode : ℕ} {dl ul a full other : A} → OverBins mode → Has mode dl ul a a full other a
at_bins {mode = mode} q = cases (eqb mode 2) (λ e. at_2 (eqb-true mode 2 e)) (λ e. at_amc (omega (arith, eqb-false mode 2 e)))

-- FUSC and the modes that are not listed alike
pub at_past : {A : Type 0} {mode : ℕ} {dl ul spread adjacent a : A} → 7 ≤ mode → Has mode dl ul spread adjacent a a a
at_past {mode = mode} h = cases (eqb mode 7) (λ e. at_7 (eqb-true mode 7 e)) (λ e. at_none (λ (l : mode < 8). omega (arith, eqb-false mode 7 e)))

pub by-mode : {A : Type 0} {mode : ℕ} {dl ul spread adjacent full other r : A} → Has mode dl ul spread adjacent full other r → r ≡ by_mode mode dl ul spread adjacent full other
by-mode (at_0 e) = rw e
by-mode (at_1 e) = rw e
by-mode (at_2 e) = rw e
by-mode {mode = mode} (at_amc q) =
    rw (amc_not_0 q, ne_eqb mode 1 (λ e. omega arith), ne_eqb mode 2 (λ e. omega arith), le-leb 3 mode q.0, lt-ltb mode 7 q.1)
by-mode (at_7 e) = rw e
by-mode {mode = mode} (at_none n) =
    let l : 7 ≤ mode = omega arith in
    rw (ne_eqb mode 0 (λ e. omega arith), ne_eqb mode 1 (λ e. omega arith), ne_eqb mode 2 (λ e. omega arith), le-leb 3 mode (omega arith), le-ltb mode 7 l, ne_eqb mode 7 (λ e. omega arith))

-- the other way, for `simp`: all columns at once
pub amc_column : {A : Type 0} (mode : ℕ) (dl ul spread adjacent full other : A) → IsAmc mode → by_mode mode dl ul spread adjacent full other ≡ adjacent
amc_column mode dl ul spread adjacent full other q = sym (by-mode (at_amc q))

pub bins_column : {A : Type 0} (mode : ℕ) (dl ul a full other : A) → OverBins mode → by_mode mode dl ul a a full other ≡ a
bins_column mode dl ul a full other q = sym (by-mode (at_bins q))

pub past_column : {A : Type 0} (mode : ℕ) (dl ul spread adjacent a : A) → 7 ≤ mode → by_mode mode dl ul spread adjacent a a ≡ a
past_column mode dl ul spread adjacent a h = sym (by-mode (at_past h))

-- what a function gave for the mode's column
pub given : {A : Type 0} {mode : ℕ} {dl ul spread adjacent full other a : A} (r : A) → Has mode dl ul spread adjacent full other a → r ≡ a → r ≡ by_mode mode dl ul spread adjacent full other
given r h e = e ∙ by-mode h

-- a function that chooses by the mode, at each of its returns, for `search`
pub ruleset choosing = (given, by-mode, at_0, at_1, at_2, at_amc, at_bins, at_7, at_past, at_none, told_amc, told_bins, past_amc, past_bins, unlisted_amc, unlisted_bins, amc_below, past_listed)
