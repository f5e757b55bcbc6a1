-- The filled grid. Document 01, "Grids"; document 02, wishes 4 and 5.
use Rattle.std.specs.Prelude.{List, ℕ, ◌+◌, ◌*◌, Float}
use Rattle.modes.specs.Setup.{Setup}
use Rattle.modes.specs.Mode.{symbols}
use Rattle.map.specs.Place.{Content, guard, dc, pilot, point, content_of}
use Rattle.mask.specs.Mask.{lit_rank}
use Rattle.points.specs.declared.Point.{Point}
use Rattle.points.specs.Points.{point_at, floats_of, zero_point}
use Rattle.lengths.specs.Length.{grid_points}
use Rattle.grid.specs.Row.{row_of, column_of}
use Rattle.grid.specs.Grid.{point_number, content_at}

-- What both moves together give, as document 01 defines the filled grid: data, the pilot point p on pilots, 0.0 elsewhere. The points are those of the lit subchannels: the rank among these gives the place.
unfoldable pub held : (setup : Setup) (mask : ℕ) (p : Point) (points : List Float) (content : Content) → Point
held setup mask p points guard = zero_point
held setup mask p points dc = zero_point
held setup mask p points pilot = p
held setup mask p points (point slot subchannel index) = point_at points (point_number (lit_rank setup mask subchannel) index)

unfoldable pub filled : (setup : Setup) (mask slot : ℕ) (p : Point) (points : List Float) → List Float
filled setup mask slot p points = floats_of (grid_points setup) (λ n. held setup mask p points (content_at setup mask slot n))

-- The filled grid in document 01's own words, "Grids", which knows no mask: data, the pilot point on pilots, 0.0 elsewhere, of all points of the slot by subchannel and index. Where all is lit both moves together give it (`all_lit_filled`). It says what each place of the grid holds by what `locate` finds there; what each point's place holds, by placing alone, is `laid_in_part`.
unfoldable pub held_all : (p : Point) (points : List Float) (content : Content) → Point
held_all p points guard = zero_point
held_all p points dc = zero_point
held_all p points pilot = p
held_all p points (point slot subchannel index) = point_at points (point_number subchannel index)

unfoldable pub filled_all : (setup : Setup) (slot : ℕ) (p : Point) (points : List Float) → List Float
filled_all setup slot p points =
    floats_of (grid_points setup) (λ n. held_all p points (content_of setup (slot * symbols setup + row_of setup n) (column_of setup n)))
