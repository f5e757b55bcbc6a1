-- What is dropped of a symbol's points. No reader needs this to know what the calls do.
use Rattle.std.specs.Prelude.{◌≡◌, List, ℕ, ◌+◌, ◌*◌, ◌<◌, ◌≤◌, Float}
use Rattle.base.specs.Steps.{entry}
use Rattle.points.specs.Points.{point_at}
use Rattle.points.specs.Model.{puts}

-- each of the columns is a point of a grid of so many floats, and each of the numbers one of so many floats of points
abbrev pub ColumnsWithin : (columns numbers : List ℕ) (grid points : ℕ) → Type 0
ColumnsWithin columns numbers grid points = (d : ℕ) → d < 1536 → (entry columns d * 2 + 1 < grid) × (entry numbers d * 2 + 1 < points)

-- The points on the first `count` columns are put at their numbers: all columns below `carriers`, or all that come before the first that is not.
pub record Dropped (columns numbers : List ℕ) (carriers : ℕ) (grid before after : List Float) : Type 0 where
  pub count : ℕ
  pub count_most : count ≤ 1536
  pub counted : (d : ℕ) → d < count → entry columns d < carriers
  pub over : count < 1536 → carriers ≤ entry columns count
  pub after_is : after ≡ puts (entry numbers) (λ d. point_at grid (entry columns d)) count before
