-- Where points are copied from and to: what the inner functions' contracts cite. No reader needs these to know what the calls do.
use Rattle.std.specs.Prelude.{List, ℕ, ◌+◌, ◌*◌, ◌%◌, ◌<◌}
use Rattle.base.specs.Steps.{entry}

-- place m of a row of 48 that starts at `by` and goes on at its start
abbrev pub turned : (row : List ℕ) (by m : ℕ) → ℕ
turned row by m = entry row ((m + by) % 48)

-- each of the 48 places of a row is a point of a buffer of so many floats
abbrev pub Within : (row : List ℕ) (floats : ℕ) → Type 0
Within row floats = (k : ℕ) → k < 48 → entry row k * 2 + 1 < floats

-- the first n points of a run lie in a grid, and their numbers, from a place of a table on and so far apart, among the points, of so many floats each
abbrev pub RunWithin : (numbers : List ℕ) (from stride : ℕ) (places : List ℕ) (start n grid points : ℕ) → Type 0
RunWithin numbers from stride places start n grid points =
    (j : ℕ) → j < n → (from + j * stride < 1680) × ((start + entry places j) * 2 + 1 < grid) × (entry numbers (from + j * stride) * 2 + 1 < points)
