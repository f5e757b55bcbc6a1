-- Lay. Document 01, "Grids"; document 02, wishes 4, 5 and 8.
use Rattle.std.specs.Prelude.{List, ℕ, eqb, length, Float}
use Rattle.base.specs.Answer.{accepted}
use Rattle.base.specs.Choice.{pick}
use Rattle.modes.specs.Setup.{Setup}
use Rattle.map.specs.Place.{Content, guard, dc, pilot, point}
use Rattle.points.specs.declared.Point.{Point}
use Rattle.points.specs.Points.{point_at, floats_of}
use Rattle.lengths.specs.Length.{grid_points}
use Rattle.lay_questions.specs.Question.{ask_lay}
use Rattle.grid.specs.Grid.{Outcome, outcome, content_at}

-- A lay touches no other float: on the carriers of its subchannel stand its points, by index; elsewhere what stood there, `old`.
unfoldable pub relaid : (subchannel : ℕ) (points : List Float) (old : Point) (content : Content) → Point
relaid subchannel points old guard = old
relaid subchannel points old dc = old
relaid subchannel points old pilot = old
relaid subchannel points old (point slot s index) = pick (eqb s subchannel) (point_at points index) old

unfoldable pub laid : (setup : Setup) (mask slot subchannel : ℕ) (points grid : List Float) → List Float
laid setup mask slot subchannel points grid =
    floats_of (grid_points setup) (λ n. relaid subchannel points (point_at grid n) (content_at setup mask slot n))

-- Lay takes mode, size, cell, mask, slot, a subchannel and its 48 points, and writes these on the slot's grid. Questions 1, 2, 3, 17, 4, 5, 20, 8, 9.
unfoldable pub lay_of : (setup : Setup) (mask slot subchannel : ℕ) (points grid : List Float) → Outcome
lay_of setup mask slot subchannel points grid =
    outcome (ask_lay setup mask slot subchannel (length points) (length grid) (accepted (laid setup mask slot subchannel points grid))) grid
