-- How ground goes about it: what the inner functions' contracts cite. No reader needs these to know what the call does.
use Rattle.std.specs.Prelude.{◌≡◌, true, List, ℕ, ◌+◌, ◌*◌, ◌<◌, ltb, length, Float}
use Rattle.base.specs.Choice.{pick}
use Rattle.modes.specs.Setup.{Setup}
use Rattle.modes.specs.Mode.{symbols}
use Rattle.formulas.specs.Formula.{is_pilot}
use Rattle.runs.specs.declared.Runs.{Runs}
use Rattle.points.specs.declared.Point.{Point}
use Rattle.points.specs.Points.{point_at}
use Rattle.grid.specs.Row.{used_position}
use Rattle.grid.specs.Grid.{content_at}
use Rattle.ground.specs.Ground.{bare}

-- the place of the second pilot of a run that has pilots, or of its only one
unfoldable pub last_pilot : (b : Runs) → ℕ
last_pilot b = pick (ltb b.second b.step) b.second b.first

-- what the ground has at point n of the grid
abbrev pub ground_at : (setup : Setup) (mask slot : ℕ) (p : Point) (n : ℕ) → Point
ground_at setup mask slot p n = bare p (content_at setup mask slot n)

-- The pilots of a row, those below so many used numbers, are as the ground has them; so is what was so before.
pub record PilotsBelow (setup : Setup) (mask slot : ℕ) (p : Point) (row below : ℕ) (before after : List Float) : Type 0 where
  pub long : length after ≡ length before
  pub kept : (n : ℕ) → point_at before n ≡ ground_at setup mask slot p n → point_at after n ≡ ground_at setup mask slot p n
  pub put : (used : ℕ) → used < below → is_pilot setup (slot * symbols setup + row) used ≡ true
      → point_at after (used_position setup row used) ≡ ground_at setup mask slot p (used_position setup row used)
