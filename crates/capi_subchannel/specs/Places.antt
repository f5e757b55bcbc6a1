-- The outcome of `bp_places`.
use Rattle.std.specs.Prelude.{List, ℕ}
use Rattle.places.specs.Places.{PlaceRow}
use Rattle.c_boundary.specs.Row.{RowOut, row_out}

-- 0 with the places, or the refusal's number and the caller's row as it was
abbrev pub places_out : (answer : PlaceRow) (places : List ℕ) → RowOut
places_out answer places = row_out answer.refusal answer.places places
