-- The pilot point as C lends it. The outcome of `bp_ground`, `bp_empty` and `bp_empty_first` is the engine's own.
use Rattle.std.specs.Prelude.{List, Float}
use Rattle.points.specs.declared.Point.{Point}
use Rattle.points.specs.Points.{point_at}

-- the point in a lent pair of floats
abbrev pub pair_point : (pair : List Float) → Point
pair_point pair = point_at pair 0
