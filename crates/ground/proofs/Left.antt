-- A ground that is accepted: what it asked, and what stands then at each place of the grid.
use Rattle.base.proofs.Prelude.{◌≡◌, refl, ap, ◌∙◌, List, ℕ, ◌*◌, ◌<◌, length}
use lib.Ieee.{Float}
use Rattle.base.specs.Answer.{accepted}
use Rattle.modes.specs.Setup.{Setup}
use Rattle.points.specs.{declared.Point.Point, Points.point_at}
use Rattle.points.proofs.Points.{point_floats}
use Rattle.lengths.specs.Length.{grid_points}
use Rattle.questions.specs.Model.{ground_refusal}
use Rattle.questions.proofs.Refusal.{GroundAccepted, ground_numbered, ground_accepted}
use Rattle.grid.specs.Grid.{Leaves, content_at}
use Rattle.grid.proofs.{Outcome.left, Slot.floats_long}
use Rattle.ground.specs.Ground.{bare, grounded, ground_of}

module _ (setup : Setup) (mask slot : ℕ) (p : Point) (old ground : List Float) (e : Leaves (ground_of setup mask slot p old) ground) where
  left_ground : (ground_refusal setup mask slot (length old) ≡ 0) × (ground ≡ grounded setup mask slot p)
  unfolding ground_of
  left_ground = left _ _ _ (ground_numbered setup mask slot (length old) (accepted (grounded setup mask slot p))) _ ground e

  pub ground_fits : GroundAccepted setup mask slot (length old)
  ground_fits = ground_accepted setup mask slot (length old) _ refl left_ground.0

  pub ground_long : length ground ≡ 2 * grid_points setup
  unfolding grounded
  ground_long = ap length left_ground.1 ∙ floats_long setup _

  pub ground-at : (n : ℕ) → n < grid_points setup → point_at ground n ≡ bare p (content_at setup mask slot n)
  unfolding grounded
  ground-at n hn = ap (λ (g : List Float). point_at g n) left_ground.1 ∙ point_floats (grid_points setup) _ n hn
