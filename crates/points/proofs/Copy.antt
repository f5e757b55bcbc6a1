-- A loop that puts points one after another.
use Rattle.base.proofs.Prelude.{◌≡◌, refl, ap, ap₂, ◌∙◌, List, ℕ, ◌+◌, ◌<◌, ◌≤◌, arith, length}
use native.Mathlib.Numerals.{add-one}
use lib.Ieee.{Float}
use Rattle.points.specs.{declared.Point.Point, Model.{put_point, puts}}
use Rattle.points.proofs.Points.{length_puts}

-- what holds before each turn of a loop that puts n points: the first m of them are put
pub record Putting (place : ℕ → ℕ) (source : ℕ → Point) (n : ℕ) (dest₀ dest : List Float) (m : ℕ) : Type 0 where
  pub at_most : m ≤ n
  pub so_far : dest ≡ puts place source m dest₀

pub putting_none : (place : ℕ → ℕ) (source : ℕ → Point) (n : ℕ) (dest₀ : List Float) → Putting place source n dest₀ dest₀ 0
unfolding puts
putting_none place source n dest₀ = record { at_most = omega arith; so_far = refl }

module _ {place : ℕ → ℕ} {source : ℕ → Point} {n : ℕ} {dest₀ dest : List Float} {m : ℕ} (t : Putting place source n dest₀ dest m) where
  pub putting_long : length dest ≡ length dest₀
  putting_long = ap length t.so_far ∙ length_puts place source m dest₀

  -- one point more
  pub putting_next : m < n → (k : ℕ) → k ≡ place m → (p : Point) → p ≡ source m → (dest' : List Float) → dest' ≡ put_point dest k p
      → Putting place source n dest₀ dest' (m + 1)
  unfolding puts
  putting_next h k e p f dest' g =
      record { at_most = omega arith; so_far = rw (add-one m) (g ∙ ap₂ (put_point dest) e f ∙ ap (λ (x : List Float). put_point x (place m) (source m)) t.so_far) }

  pub putting_done : n ≤ m → dest ≡ puts place source n dest₀
  putting_done h = t.so_far ∙ ap (λ (x : ℕ). puts place source x dest₀) (omega (arith, t.at_most))
