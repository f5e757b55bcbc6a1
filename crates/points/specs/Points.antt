-- Points in lent buffers. Document 01, "Grids": a point is a pair of 32-bit floats, in-phase first, copied bit for bit.
use Rattle.std.specs.Prelude.{List, ℕ, ◌+◌, ◌*◌, ◌/◌, ◌%◌, eqb, get_or, Float}
use Rattle.std.specs.Float.Ieee.{of_bits}
use Rattle.std.specs.Float.{binary32, nan}
use Rattle.base.specs.Choice.{pick}
use Rattle.base.specs.Tabulate.{tabulate}
use Rattle.points.specs.declared.Point.{Point}

-- +0.0
abbrev pub zero32 : Float
zero32 = of_bits binary32 0

abbrev pub zero_point : Point
zero_point = record { i = zero32; q = zero32 }

-- point n of a buffer, two floats a point (past its end the library's list has no number, `nan`)
unfoldable pub point_at : (floats : List Float) (n : ℕ) → Point
point_at floats n = record { i = get_or floats (n * 2) nan; q = get_or floats (n * 2 + 1) nan }

-- the buffer of n points
unfoldable pub floats_of : (n : ℕ) (f : ℕ → Point) → List Float
floats_of n f = tabulate (n * 2) (λ j. pick (eqb (j % 2) 0) (f (j / 2)).i (f (j / 2)).q)
