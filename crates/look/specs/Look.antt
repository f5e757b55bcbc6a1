-- Look. Document 01, "Grids"; document 02, wishes 3, 5 and 8.
use Rattle.std.specs.Prelude.{List, ℕ, ◌%◌, length, ℤ, Float, Result, Ok, Err}
use Rattle.base.specs.Answer.{Answer, accepted, refused}
use Rattle.refusal.specs.declared.Refusal.{Refusal}
use Rattle.refusal.specs.Refusal.{number_of}
use Rattle.centre.specs.Centre.{on_row}
use Rattle.modes.specs.Setup.{Setup}
use Rattle.modes.specs.Mode.{symbols}
use Rattle.map.specs.Place.{Content, guard, dc, pilot, point}
use Rattle.mask.specs.Mask.{lit_content}
use Rattle.points.specs.declared.Point.{Point}
use Rattle.points.specs.Points.{point_at}
use Rattle.questions.specs.Question.{ask_look}
use Rattle.grid.specs.Row.{carrier_position}
use Rattle.look.specs.declared.Seen.{Seen}
use Rattle.look.specs.declared.Seen.TheVariants.{Nothing, Pilot, Data}

-- nothing (guard, DC, or what is not lit), a pilot with its point, or data with its point, slot, subchannel and index
pub data Sight : Type 0 where
  nothing : Sight
  pilot_with : Point → Sight
  data_with : Point → (slot subchannel index : ℕ) → Sight

unfoldable pub sight : (p : Point) (content : Content) → Sight
sight p guard = nothing
sight p dc = nothing
sight p pilot = pilot_with p
sight p (point slot subchannel index) = data_with p slot subchannel index

-- Look takes mode, size, cell, mask, a zone's symbol, its slot's filled grid and a carrier, and reads the point from the grid. Questions 1, 2, 3, 17, 4, 7, 20, 9.
unfoldable pub look_of : (setup : Setup) (mask symbol : ℕ) (grid : List Float) (carrier : ℤ) → Answer Sight
look_of setup mask symbol grid carrier =
    ask_look setup mask symbol carrier (length grid)
    (accepted (sight (point_at grid (carrier_position setup (symbol % symbols setup) carrier)) (lit_content setup mask symbol (on_row setup.size carrier))))

-- The code's sight; and what an answer of `look` says: document 01's values, or its number.
abbrev pub as_sight : (sight : Seen) → Sight
as_sight Nothing = nothing
as_sight (Pilot p) = pilot_with p
as_sight (Data p slot subchannel index) = data_with p slot subchannel index

abbrev pub seen : (answer : Result Seen Refusal) → Answer Sight
seen (Ok sight) = accepted (as_sight sight)
seen (Err e) = refused (number_of e)
