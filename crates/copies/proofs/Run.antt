-- Runs of a row of places: the points on them, and two runs that are the turned row.
use Rattle.base.proofs.Prelude.{◌≡◌, refl, ap, ◌∙◌, List, ℕ, ◌+◌, ◌-◌, ◌<◌, arith}
use lib.Ieee.{Float}
use Rattle.base.specs.Steps.{entry}
use Rattle.points.specs.{declared.Point.Point, Points.point_at, Model.puts}
use Rattle.points.proofs.Points.{puts_as, puts_more}
use Rattle.copies.specs.Model.{turned}

-- a run of the first a points and one of the b that follow, by whatever way to say the places and the source
two_runs : (place p₁ p₂ : ℕ → ℕ) (source s₁ s₂ : ℕ → Point) (a b : ℕ) (l l₁ l₂ : List Float) → l₁ ≡ puts p₁ s₁ a l → l₂ ≡ puts p₂ s₂ b l₁
    → ((m : ℕ) → m < a → p₁ m ≡ place m) → ((m : ℕ) → m < a → s₁ m ≡ source m)
    → ((m : ℕ) → m < b → p₂ m ≡ place (a + m)) → ((m : ℕ) → m < b → s₂ m ≡ source (a + m))
    → l₂ ≡ puts place source (a + b) l
two_runs place p₁ p₂ source s₁ s₂ a b l l₁ l₂ e₁ e₂ f₁ g₁ f₂ g₂ =
    e₂ ∙ puts_as p₂ (λ m. place (a + m)) s₂ (λ m. source (a + m)) b l₁ f₂ g₂
    ∙ ap (puts (λ m. place (a + m)) (λ m. source (a + m)) b) (e₁ ∙ puts_as p₁ place s₁ source a l f₁ g₁)
    ∙ puts_more place source a b l

-- the run from place `by` on and the one from the row's start are the turned row
module _ (row : List ℕ) (by : ℕ) (h : by < 48) where
  whole : (place : ℕ → ℕ) (source : ℕ → Point) (l : List Float) → puts place source (48 - by + by) l ≡ puts place source 48 l
  whole place source l = ap (λ (n : ℕ). puts place source n l) (omega arith)

  first_run : (m : ℕ) → m < 48 - by → entry row (by + m) ≡ turned row by m
  first_run m l = ap (entry row) (omega arith)

  second_run : (m : ℕ) → m < by → entry row (0 + m) ≡ turned row by (48 - by + m)
  second_run m l = ap (entry row) (omega arith)

  module _ (other l l₁ l₂ : List Float) where
    pub laid_runs : l₁ ≡ puts (λ m. entry row (by + m)) (λ m. point_at other (0 + m)) (48 - by) l
        → l₂ ≡ puts (λ m. entry row (0 + m)) (λ m. point_at other (48 - by + m)) by l₁
        → l₂ ≡ puts (turned row by) (point_at other) 48 l
    laid_runs e₁ e₂ =
        two_runs (turned row by) _ _ (point_at other) _ _ (48 - by) by l l₁ l₂ e₁ e₂
        first_run (λ m i. ap (point_at other) (omega arith)) second_run (λ m i. refl)
        ∙ whole _ _ l
