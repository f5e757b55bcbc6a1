-- A lay that is accepted: what it asked, and what stands then at each place of the grid.
use Rattle.base.proofs.Prelude.{◌≡◌, refl, ap, ◌∙◌, List, ℕ, ◌*◌, ◌<◌, length}
use lib.Ieee.{Float}
use Rattle.base.specs.Answer.{accepted}
use Rattle.modes.specs.Setup.{Setup}
use Rattle.points.specs.Points.{point_at}
use Rattle.points.proofs.Points.{point_floats}
use Rattle.lengths.specs.Length.{grid_points}
use Rattle.lay_questions.specs.Model.{lay_refusal}
use Rattle.lay_questions.proofs.Refusal.{LayAccepted, lay_numbered, lay_accepted}
use Rattle.grid.specs.Grid.{Leaves, content_at}
use Rattle.grid.proofs.{Outcome.left, Slot.floats_long}
use Rattle.lay.specs.Lay.{relaid, laid, lay_of}

module _ (setup : Setup) (mask slot s : ℕ) (points grid next : List Float) (e : Leaves (lay_of setup mask slot s points grid) next) where
  left_lay : (lay_refusal setup mask slot s (length points) (length grid) ≡ 0) × (next ≡ laid setup mask slot s points grid)
  unfolding lay_of
  left_lay = left _ _ _ (lay_numbered setup mask slot s (length points) (length grid) (accepted (laid setup mask slot s points grid))) _ next e

  pub lay_fits : LayAccepted setup mask slot s (length points) (length grid)
  lay_fits = lay_accepted setup mask slot s (length points) (length grid) _ refl left_lay.0

  pub lay_long : length next ≡ 2 * grid_points setup
  unfolding laid
  lay_long = ap length left_lay.1 ∙ floats_long setup _

  pub lay_at : (n : ℕ) → n < grid_points setup → point_at next n ≡ relaid s points (point_at grid n) (content_at setup mask slot n)
  unfolding laid
  lay_at n h = ap (λ (g : List Float). point_at g n) left_lay.1 ∙ point_floats (grid_points setup) _ n h
