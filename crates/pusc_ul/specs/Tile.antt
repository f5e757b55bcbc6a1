-- Tiles and data places. Document 01, "Partial usage": 420 tiles of 4 carriers by 3 symbols, corners pilots; tile p is used numbers 4p to 4p+3.
use Rattle.std.specs.Prelude.{Bool, true, false, ℕ, ◌+◌, ◌-◌, ◌*◌, ◌/◌, ◌%◌, eqb, ltb}
use Rattle.base.specs.Choice.{pick}
use Rattle.base.specs.Steps.{entry, unrotate}
use Rattle.pusc_ul.specs.Table.{tile_permutation, tile_permutation_inverse}

-- Tile t (0..5) of subchannel s is 70t + (Q[(s+t) mod 70] + cell) mod 70.
unfoldable pub tile_of : (cell s t : ℕ) → ℕ
tile_of cell s t = t * 70 + (entry tile_permutation ((s + t) % 70) + cell) % 70

-- The reverse: the subchannel of a tile.
unfoldable pub tile_subchannel : (cell tile : ℕ) → ℕ
tile_subchannel cell tile = unrotate 70 (tile / 70) (entry tile_permutation_inverse (unrotate 70 cell (tile % 70)))

-- corners pilots: the first and the last carrier of a tile in the first and the last symbol of a slot; an offset is 0, 1 or 2
unfoldable pub is_tile_pilot : (offset used : ℕ) → Bool
is_tile_pilot offset used = pick (eqb offset 1) false (pick (eqb (used % 4) 0) true (eqb (used % 4) 3))

-- Data place q (0..47) is numbered by symbol, then tile t, then carrier: 12, 24, 12 a symbol. Its symbol in the slot, its t, and its carrier in the tile.
unfoldable pub place_symbol : (q : ℕ) → ℕ
place_symbol q = pick (ltb q 12) 0 (pick (ltb q 36) 1 2)

unfoldable pub place_tile : (q : ℕ) → ℕ
place_tile q = pick (ltb q 12) (q / 2) (pick (ltb q 36) ((q - 12) / 4) ((q - 36) / 2))

unfoldable pub place_carrier : (q : ℕ) → ℕ
place_carrier q = pick (ltb q 12) (q % 2 + 1) (pick (ltb q 36) ((q - 12) % 4) ((q - 36) % 2 + 1))

-- The reverse: the data place of a carrier of tile t in a symbol of the slot, no pilot; 48, which is none, for a fourth symbol.
unfoldable pub data_place : (offset t carrier : ℕ) → ℕ
data_place offset t carrier =
    pick (eqb offset 0) (t * 2 + (carrier - 1)) (pick (eqb offset 1) (12 + (t * 4 + carrier)) (pick (eqb offset 2) (36 + (t * 2 + (carrier - 1))) 48))
