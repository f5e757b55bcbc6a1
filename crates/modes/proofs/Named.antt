-- What the name of a mode says of its number, and of a choice by the mode.
use Rattle.std.proofs.Common.{◌≡◌, refl, sym, ap, ◌∙◌, true, false, ℕ, arith, Result, Ok, Err}
use Rattle.base.proofs.{Prelude.{Bool, eqb, eqb-true, eqb-false}, Test.{cases}}
use Rattle.refusal.specs.declared.Refusal.{Refusal}
use Rattle.refusal.specs.declared.Refusal.TheVariants as no
use Rattle.modes.specs.declared.Mode.{Mode}
use Rattle.modes.specs.declared.Mode.TheVariants.{PuscDl, PuscUl, Ofusc, Amc, Fusc}
use Rattle.amc.specs.{declared.Shape.Shape, Model.IsShape}
use Rattle.modes.proofs.Choice.{amc_shape, told_amc}
use Rattle.modes.specs.{Mode.{by_mode, shape_of, is_amc}, Named.named, Model.{OverBins, IsAmc}}

-- a choice by the name
abbrev of_name : {A : Type 0} (name : Result Mode Refusal) (dl ul spread : A) (adjacent : Shape → A) (full other : A) → A
of_name (Ok PuscDl) dl ul spread adjacent full other = dl
of_name (Ok PuscUl) dl ul spread adjacent full other = ul
of_name (Ok Ofusc) dl ul spread adjacent full other = spread
of_name (Ok (Amc shape)) dl ul spread adjacent full other = adjacent shape
of_name (Ok Fusc) dl ul spread adjacent full other = full
of_name (Err refusal) dl ul spread adjacent full other = other

-- is that by the number
module _ {A : Type 0} (mode : ℕ) (dl ul spread adjacent full other : A) where
  pub chosen : by_mode mode dl ul spread adjacent full other ≡ of_name (named mode) dl ul spread (λ s. adjacent) full other
  unfolding named
  chosen =
      cases (eqb mode 0) (λ e. rw e) (λ n₀.
      cases (eqb mode 1) (λ e. rw (n₀, e)) (λ n₁.
      cases (eqb mode 2) (λ e. rw (n₀, n₁, e)) (λ n₂.
      cases (is_amc mode) (λ e. rw (n₀, n₁, n₂, e)) (λ n₃.
      cases (eqb mode 7) (λ e. rw (n₀, n₁, n₂, n₃, e)) (λ n₄. rw (n₀, n₁, n₂, n₃, n₄))))))

  -- as an arm of the code has it
  module _ (r : Result Mode Refusal) (is : r ≡ named mode) (x : A) where
    pub otherwise : (e : Refusal) → r ≡ Err e → x ≡ other → x ≡ by_mode mode dl ul spread adjacent full other
    otherwise refusal e f = f ∙ sym (chosen ∙ rw (← is, e))

    module _ (name : Mode) (ok : r ≡ Ok name) where
      named_is : named mode ≡ Ok name
      named_is = sym is ∙ ok

      pub in_pusc_dl : name ≡ PuscDl → x ≡ dl → x ≡ by_mode mode dl ul spread adjacent full other
      in_pusc_dl e f = f ∙ sym (chosen ∙ rw (named_is, e))

      pub in_pusc_ul : name ≡ PuscUl → x ≡ ul → x ≡ by_mode mode dl ul spread adjacent full other
      in_pusc_ul e f = f ∙ sym (chosen ∙ rw (named_is, e))

      pub in_ofusc : name ≡ Ofusc → x ≡ spread → x ≡ by_mode mode dl ul spread adjacent full other
      in_ofusc e f = f ∙ sym (chosen ∙ rw (named_is, e))

      pub in_amc : (shape : Shape) → name ≡ Amc shape → x ≡ adjacent → x ≡ by_mode mode dl ul spread adjacent full other
      in_amc shape e f = f ∙ sym (chosen ∙ rw (named_is, e))

      pub in_fusc : name ≡ Fusc → x ≡ full → x ≡ by_mode mode dl ul spread adjacent full other
      in_fusc e f = f ∙ sym (chosen ∙ rw (named_is, e))

pub ruleset by_name = (in_pusc_dl, in_pusc_ul, in_ofusc, in_amc, in_fusc, otherwise)

-- AMC's shape is that of the number
pub amc_named : (mode : ℕ) (shape : Shape) → named mode ≡ Ok (Amc shape) → (is_amc mode ≡ true) × (shape ≡ shape_of mode)
unfolding named
amc_named mode shape h =
    cases (eqb mode 0) (λ e. let z : ◌≡◌ {A = Result Mode Refusal} (Ok PuscDl) (Ok (Amc shape)) = rw e at h in absurd cc) (λ n₀.
    cases (eqb mode 1) (λ e. let z : ◌≡◌ {A = Result Mode Refusal} (Ok PuscUl) (Ok (Amc shape)) = rw (n₀, e) at h in absurd cc) (λ n₁.
    cases (eqb mode 2) (λ e. let z : ◌≡◌ {A = Result Mode Refusal} (Ok Ofusc) (Ok (Amc shape)) = rw (n₀, n₁, e) at h in absurd cc) (λ n₂.
    cases (is_amc mode) (λ e. let z : ◌≡◌ {A = Result Mode Refusal} (Ok (Amc (shape_of mode))) (Ok (Amc shape)) = rw (n₀, n₁, n₂, e) at h in (e, cc)) (λ n₃.
    cases (eqb mode 7) (λ e. let z : ◌≡◌ {A = Result Mode Refusal} (Ok Fusc) (Ok (Amc shape)) = rw (n₀, n₁, n₂, n₃, e) at h in absurd cc) (λ n₄.
    let z : ◌≡◌ {A = Result Mode Refusal} (Err no.Mode) (Ok (Amc shape)) = rw (n₀, n₁, n₂, n₃, n₄) at h in absurd cc)))))

pub pusc_dl_named : (mode : ℕ) → named mode ≡ Ok PuscDl → mode ≡ 0
unfolding named
pusc_dl_named mode h =
    cases (eqb mode 0) (λ e. eqb-true mode 0 e) (λ n₀.
    cases (eqb mode 1) (λ e. let z : ◌≡◌ {A = Result Mode Refusal} (Ok PuscUl) (Ok PuscDl) = rw (n₀, e) at h in absurd cc) (λ n₁.
    cases (eqb mode 2) (λ e. let z : ◌≡◌ {A = Result Mode Refusal} (Ok Ofusc) (Ok PuscDl) = rw (n₀, n₁, e) at h in absurd cc) (λ n₂.
    cases (is_amc mode) (λ e. let z : ◌≡◌ {A = Result Mode Refusal} (Ok (Amc (shape_of mode))) (Ok PuscDl) = rw (n₀, n₁, n₂, e) at h in absurd cc) (λ n₃.
    cases (eqb mode 7) (λ e. let z : ◌≡◌ {A = Result Mode Refusal} (Ok Fusc) (Ok PuscDl) = rw (n₀, n₁, n₂, n₃, e) at h in absurd cc) (λ n₄.
    let z : ◌≡◌ {A = Result Mode Refusal} (Err no.Mode) (Ok PuscDl) = rw (n₀, n₁, n₂, n₃, n₄) at h in absurd cc)))))

pub pusc_ul_named : (mode : ℕ) → named mode ≡ Ok PuscUl → mode ≡ 1
unfolding named
pusc_ul_named mode h =
    cases (eqb mode 0) (λ e. let z : ◌≡◌ {A = Result Mode Refusal} (Ok PuscDl) (Ok PuscUl) = rw e at h in absurd cc) (λ n₀.
    cases (eqb mode 1) (λ e. eqb-true mode 1 e) (λ n₁.
    cases (eqb mode 2) (λ e. let z : ◌≡◌ {A = Result Mode Refusal} (Ok Ofusc) (Ok PuscUl) = rw (n₀, n₁, e) at h in absurd cc) (λ n₂.
    cases (is_amc mode) (λ e. let z : ◌≡◌ {A = Result Mode Refusal} (Ok (Amc (shape_of mode))) (Ok PuscUl) = rw (n₀, n₁, n₂, e) at h in absurd cc) (λ n₃.
    cases (eqb mode 7) (λ e. let z : ◌≡◌ {A = Result Mode Refusal} (Ok Fusc) (Ok PuscUl) = rw (n₀, n₁, n₂, n₃, e) at h in absurd cc) (λ n₄.
    let z : ◌≡◌ {A = Result Mode Refusal} (Err no.Mode) (Ok PuscUl) = rw (n₀, n₁, n₂, n₃, n₄) at h in absurd cc)))))

pub ofusc_named : (mode : ℕ) → named mode ≡ Ok Ofusc → mode ≡ 2
unfolding named
ofusc_named mode h =
    cases (eqb mode 0) (λ e. let z : ◌≡◌ {A = Result Mode Refusal} (Ok PuscDl) (Ok Ofusc) = rw e at h in absurd cc) (λ n₀.
    cases (eqb mode 1) (λ e. let z : ◌≡◌ {A = Result Mode Refusal} (Ok PuscUl) (Ok Ofusc) = rw (n₀, e) at h in absurd cc) (λ n₁.
    cases (eqb mode 2) (λ e. eqb-true mode 2 e) (λ n₂.
    cases (is_amc mode) (λ e. let z : ◌≡◌ {A = Result Mode Refusal} (Ok (Amc (shape_of mode))) (Ok Ofusc) = rw (n₀, n₁, n₂, e) at h in absurd cc) (λ n₃.
    cases (eqb mode 7) (λ e. let z : ◌≡◌ {A = Result Mode Refusal} (Ok Fusc) (Ok Ofusc) = rw (n₀, n₁, n₂, n₃, e) at h in absurd cc) (λ n₄.
    let z : ◌≡◌ {A = Result Mode Refusal} (Err no.Mode) (Ok Ofusc) = rw (n₀, n₁, n₂, n₃, n₄) at h in absurd cc)))))

pub fusc_named : (mode : ℕ) → named mode ≡ Ok Fusc → mode ≡ 7
unfolding named
fusc_named mode h =
    cases (eqb mode 0) (λ e. let z : ◌≡◌ {A = Result Mode Refusal} (Ok PuscDl) (Ok Fusc) = rw e at h in absurd cc) (λ n₀.
    cases (eqb mode 1) (λ e. let z : ◌≡◌ {A = Result Mode Refusal} (Ok PuscUl) (Ok Fusc) = rw (n₀, e) at h in absurd cc) (λ n₁.
    cases (eqb mode 2) (λ e. let z : ◌≡◌ {A = Result Mode Refusal} (Ok Ofusc) (Ok Fusc) = rw (n₀, n₁, e) at h in absurd cc) (λ n₂.
    cases (is_amc mode) (λ e. let z : ◌≡◌ {A = Result Mode Refusal} (Ok (Amc (shape_of mode))) (Ok Fusc) = rw (n₀, n₁, n₂, e) at h in absurd cc) (λ n₃.
    cases (eqb mode 7) (λ e. eqb-true mode 7 e) (λ n₄.
    let z : ◌≡◌ {A = Result Mode Refusal} (Err no.Mode) (Ok Fusc) = rw (n₀, n₁, n₂, n₃, n₄) at h in absurd cc)))))

module _ (mode : ℕ) (r : Result Mode Refusal) (is : r ≡ named mode) (name : Mode) (ok : r ≡ Ok name) where
  pub shape_named : {shape : Shape} → name ≡ Amc shape → shape ≡ shape_of mode
  shape_named {shape} e = (amc_named mode shape (sym is ∙ ok ∙ ap (λ (m : Mode). Ok m) e)).1

module _ (mode : ℕ) (r : Result Mode Refusal) (is : r ≡ named mode) (name : Mode) (ok : r ≡ Ok name) where
  pub amc_modes : {shape : Shape} → name ≡ Amc shape → IsAmc mode
  amc_modes {shape} e = told_amc (is_amc mode) refl (amc_named mode shape (sym is ∙ ok ∙ ap (λ (m : Mode). Ok m) e)).0

  pub amc_bins : {shape : Shape} → name ≡ Amc shape → OverBins mode
  amc_bins e = omega (arith, amc_modes e)

  pub is_shape : {shape : Shape} → name ≡ Amc shape → IsShape shape
  is_shape e = rw (shape_named mode r is name ok e) (amc_shape _ (amc_modes e))

  pub pusc_dl_mode : name ≡ PuscDl → mode ≡ 0
  pusc_dl_mode e = pusc_dl_named mode (sym is ∙ ok ∙ ap (λ (m : Mode). Ok m) e)

  pub pusc_ul_mode : name ≡ PuscUl → mode ≡ 1
  pusc_ul_mode e = pusc_ul_named mode (sym is ∙ ok ∙ ap (λ (m : Mode). Ok m) e)

  pub ofusc_mode : name ≡ Ofusc → mode ≡ 2
  ofusc_mode e = ofusc_named mode (sym is ∙ ok ∙ ap (λ (m : Mode). Ok m) e)

  pub fusc_mode : name ≡ Fusc → mode ≡ 7
  fusc_mode e = fusc_named mode (sym is ∙ ok ∙ ap (λ (m : Mode). Ok m) e)

  pub ofusc_bins : name ≡ Ofusc → OverBins mode
  ofusc_bins e = omega (arith, ofusc_mode e)

-- what the name says, for `search`
pub ruleset by_told = (pusc_dl_mode, pusc_ul_mode, ofusc_mode, fusc_mode, amc_modes, shape_named)

-- ---- two modes by a test of their own, as the code has it

pub is_number : {b : Bool} (mode k : ℕ) → b ≡ eqb mode k → b ≡ true → mode ≡ k
is_number mode k e t = eqb-true mode k (sym e ∙ t)

pub not_number : {b : Bool} (mode k : ℕ) → b ≡ eqb mode k → b ≡ false → mode ≡ k → ⊥
not_number mode k e t = eqb-false mode k (sym e ∙ t)
