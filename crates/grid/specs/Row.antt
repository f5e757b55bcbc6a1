-- Where a carrier stands in a slot's grid. Document 01, "Grids": symbol after symbol, each by rising carrier, a point a carrier.
use Rattle.std.specs.Prelude.{ℕ, ◌+◌, ◌*◌, ◌/◌, ◌%◌, ℤ}
use Rattle.carriers.specs.Band.{carrier_of}
use Rattle.centre.specs.Centre.{on_row}
use Rattle.modes.specs.Setup.{Setup}
use Rattle.modes.specs.Mode.{band}

-- where a column of a row stands in the grid, row r being symbol r of the slot
unfoldable pub column_position : (setup : Setup) (row column : ℕ) → ℕ
column_position setup row column = row * setup.size + column

-- where a carrier of a row stands in the grid
abbrev pub carrier_position : (setup : Setup) (row : ℕ) (carrier : ℤ) → ℕ
carrier_position setup row carrier = column_position setup row (on_row setup.size carrier)

-- where a used number of a row stands in the grid
unfoldable pub used_position : (setup : Setup) (row used : ℕ) → ℕ
used_position setup row used = column_position setup row (carrier_of (band setup) used)

-- the row in which point n of the grid stands: `size` points a row, row after row
unfoldable pub row_of : (setup : Setup) (n : ℕ) → ℕ
row_of setup n = n / setup.size

-- the column in which point n of the grid stands
unfoldable pub column_of : (setup : Setup) (n : ℕ) → ℕ
column_of setup n = n % setup.size
