-- What is claimed of the numbers counted from DC: the columns of a row and the carriers in range are the same, one for one and in the same order. Its proof, at every even size, is `centre_law`: of an odd size, of which half is not whole, the last column has no carrier in range.
use Rattle.std.specs.Prelude.{◌≡◌, true, ℕ, ◌/◌, ◌<◌, ℤ, pos, ◌<ℤ◌}
use Rattle.centre.specs.Centre.{from_dc, in_range, on_row}

pub record CentreLaw (size : ℕ) : Type 0 where
  -- DC, in the middle of the row, is at 0.
  pub middle : from_dc size (size / 2) ≡ pos 0
  -- A column further on has a larger carrier.
  pub rising : (column next : ℕ) → column < next → from_dc size column <ℤ from_dc size next
  -- Each column of the row has a carrier in range, and is that carrier's column.
  pub in-range : (column : ℕ) → column < size → in_range size (from_dc size column) ≡ true
  pub back : (column : ℕ) → on_row size (from_dc size column) ≡ column
  -- Each carrier in range has a column of the row, and is that column's carrier.
  pub column_lt : (carrier : ℤ) → in_range size carrier ≡ true → on_row size carrier < size
  pub forth : (carrier : ℤ) → in_range size carrier ≡ true → from_dc size (on_row size carrier) ≡ carrier
