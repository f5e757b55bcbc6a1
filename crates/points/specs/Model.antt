-- Points put into a buffer one after another: what the inner functions' contracts cite. No reader needs these to know what the calls do.
use Rattle.std.specs.Prelude.{List, ℕ, zero, suc, ◌+◌, ◌*◌, set, Float}
use Rattle.points.specs.declared.Point.{Point}

-- a buffer with point n put
unfoldable pub put_point : (floats : List Float) (n : ℕ) (p : Point) → List Float
put_point floats n p = set (set floats (n * 2) p.i) (n * 2 + 1) p.q

-- the first m points of a source put at their places
unfoldable pub puts : (place : ℕ → ℕ) (source : ℕ → Point) (m : ℕ) (floats : List Float) → List Float
puts place source zero floats = floats
puts place source (suc m) floats = put_point (puts place source m floats) (place m) (source m)
