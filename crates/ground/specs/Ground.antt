-- Ground. Document 01, "Grids"; document 02, wishes 4, 5 and 8.
use Rattle.std.specs.Prelude.{List, ℕ, length, Float}
use Rattle.base.specs.Answer.{accepted}
use Rattle.modes.specs.Setup.{Setup}
use Rattle.map.specs.Place.{Content, guard, dc, pilot, point}
use Rattle.points.specs.declared.Point.{Point}
use Rattle.points.specs.Points.{floats_of, zero_point}
use Rattle.lengths.specs.Length.{grid_points}
use Rattle.questions.specs.Question.{ask_ground}
use Rattle.grid.specs.Grid.{Outcome, outcome, content_at}

-- Document 02, wish 4: fill becomes two moves. The ground has the pilot point p on pilots and 0.0 elsewhere, on every data carrier too.
unfoldable pub bare : (p : Point) (content : Content) → Point
bare p guard = zero_point
bare p dc = zero_point
bare p pilot = p
bare p (point slot subchannel index) = zero_point

unfoldable pub grounded : (setup : Setup) (mask slot : ℕ) (p : Point) → List Float
grounded setup mask slot p = floats_of (grid_points setup) (λ n. bare p (content_at setup mask slot n))

-- Ground takes mode, size, cell, mask, slot and a pilot point, and writes the slot's grid. Questions 1, 2, 3, 17, 4, 20, 9.
unfoldable pub ground_of : (setup : Setup) (mask slot : ℕ) (p : Point) (grid : List Float) → Outcome
ground_of setup mask slot p grid =
    outcome (ask_ground setup mask slot (length grid) (accepted (grounded setup mask slot p))) grid
