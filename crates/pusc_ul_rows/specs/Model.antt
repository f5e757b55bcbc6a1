-- How a row of carriers, and the points of a symbol, are found fast. No reader needs this to know what the calls do.
use Rattle.std.specs.Prelude.{◌≡◌, List, ℕ, ◌+◌, ◌*◌, ◌/◌, ◌%◌, ◌<◌, eqb, set}
use Rattle.base.specs.Choice.{pick}
use Rattle.base.specs.Steps.{entry}
use Rattle.carriers.specs.Band.{pusc_band, carrier_of}
use Rattle.carriers.specs.Model.{address_number}
use Rattle.pusc_ul.specs.Tile.{tile_of, place_symbol, place_tile, place_carrier}
use Rattle.pusc_ul.specs.Map.{address_of}
use Rattle.pusc_ul.specs.Model.{tile_of_seventy}

-- the carrier of data place q of a subchannel, 2048 for each symbol of the slot
unfoldable pub place_number : (cell subchannel q : ℕ) → ℕ
place_number cell subchannel q = place_symbol q * 2048 + carrier_of pusc_band (tile_of cell subchannel (place_tile q) * 4 + place_carrier q)

-- the first carrier of tile t of a subchannel
unfoldable pub tile_start : (cell subchannel t : ℕ) → ℕ
tile_start cell subchannel t = tile_of_seventy cell subchannel t * 4 + carrier_of pusc_band (t * 280)

-- a row with x and the next number as pair j
unfoldable pub put_two : (row : List ℕ) (j x : ℕ) → List ℕ
put_two row j x = set (set row (j * 2) x) (j * 2 + 1) (x + 1)

-- the data carriers of a tile in a symbol of the slot: all four in the middle one, else the inner two
unfoldable pub tile_place : (offset j : ℕ) → ℕ
tile_place offset j = pick (eqb offset 1) j (j + 1)

-- how many data carriers a tile has in a symbol of the slot
unfoldable pub tile_points : (offset : ℕ) → ℕ
tile_points offset = pick (eqb offset 1) 4 2

-- the numbers of a row's points, point j of tile p at place j * 420 + p
abbrev pub TileRow : (cell offset : ℕ) (row : List ℕ) → Type 0
TileRow cell offset row = (p j : ℕ) → p < 420 → j < tile_points offset → entry row (j * 420 + p) ≡ address_number (address_of cell offset (p * 4 + tile_place offset j))

-- the number at place k of it
unfoldable pub row_number : (cell offset k : ℕ) → ℕ
row_number cell offset k = address_number (address_of cell offset (k % 420 * 4 + tile_place offset (k / 420)))
