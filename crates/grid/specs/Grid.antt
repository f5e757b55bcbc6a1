-- What the calls with a grid share: the outcome of a call with a buffer, and where a slot's points stand in its grid. Document 01, "Grids".
use Rattle.std.specs.Prelude.{◌≡◌, List, ℕ, ◌+◌, ◌*◌, ◌%◌, Float}
use Rattle.base.specs.Answer.{Answer, accepted, refused}
use Rattle.centre.specs.Centre.{from_dc}
use Rattle.modes.specs.Setup.{Setup}
use Rattle.modes.specs.Mode.{symbols}
use Rattle.formulas.specs.Formula.{spot_of}
use Rattle.map.specs.Place.{Content}
use Rattle.map.specs.Law.{PlacedAt}
use Rattle.mask.specs.Mask.{lit_content}
use Rattle.points.specs.declared.Point.{Point}
use Rattle.points.specs.Points.{point_at}
use Rattle.grid.specs.Row.{column_position, used_position, row_of, column_of}

-- the answer of a call with a buffer, and the buffer as it is then
pub record Outcome : Type 0 where
  pub refusal : ℕ
  pub buffer : List Float

-- 0 and the buffer anew, or the refusal's number and the buffer as it was
abbrev pub outcome : (answer : Answer (List Float)) (old : List Float) → Outcome
outcome (accepted new) old = record { refusal = 0; buffer = new }
outcome (refused number) old = record { refusal = number; buffer = old }

-- a call that is accepted, and the buffer that it leaves
abbrev pub Leaves : (o : Outcome) (buffer : List Float) → Type 0
Leaves o buffer = o ≡ record { refusal = 0; buffer = buffer }

-- the number of a point among the points of subchannels one after another: by the subchannel's rank among these and index, 48 a subchannel
abbrev pub point_number : (rank index : ℕ) → ℕ
point_number rank index = rank * 48 + index

-- what the carrier holds that stands at point n of a slot's grid, where only the mask's groups are lit
abbrev pub content_at : (setup : Setup) (mask slot n : ℕ) → Content
content_at setup mask slot n = lit_content setup mask (slot * symbols setup + row_of setup n) (column_of setup n)

-- where in the grid a point of the slot stands
unfoldable pub stands_at : (setup : Setup) (slot subchannel index : ℕ) → ℕ
stands_at setup slot subchannel index =
    let spot = spot_of setup slot subchannel index in
    used_position setup spot.offset spot.used

-- what stands in a grid of the slot in a column of a symbol's row
abbrev pub standing : (setup : Setup) (grid : List Float) (symbol column : ℕ) → Point
standing setup grid symbol column = point_at grid (column_position setup (symbol % symbols setup) column)

-- `place` puts a point of the slot there: in a symbol of the zone, on the carrier of a column
abbrev pub PlacedIn : (setup : Setup) (slot subchannel index symbol column : ℕ) → Type 0
PlacedIn setup slot subchannel index symbol column = PlacedAt setup slot subchannel index symbol (from_dc setup.size column)
