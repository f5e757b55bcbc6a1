-- The whole of PUSC uplink: from subchannel and index to symbol and used number, and back.
use Rattle.std.specs.Prelude.{ℕ, ◌+◌, ◌*◌, ◌/◌, ◌%◌}
use Rattle.base.specs.Steps.{unrotate}
use Rattle.carriers.specs.declared.Spot.{Spot}
use Rattle.carriers.specs.declared.Address.{Address}
use Rattle.pusc_ul.specs.Tile.{tile_of, tile_subchannel, place_symbol, place_tile, place_carrier, data_place}

-- Document 01, "Partial usage": index n is on data place (n+13s) mod 48.
unfoldable pub spot_of : (cell subchannel index : ℕ) → Spot
spot_of cell subchannel index =
    let q = (index + 13 * subchannel) % 48 in
    record {
      offset = place_symbol q;
      used = tile_of cell subchannel (place_tile q) * 4 + place_carrier q;
    }

-- The reverse: the subchannel and the index of a used number in a symbol of the slot.
unfoldable pub address_of : (cell offset used : ℕ) → Address
address_of cell offset used =
    let tile = used / 4 in
    let s = tile_subchannel cell tile in
    record {
      subchannel = s;
      index = unrotate 48 (13 * s) (data_place offset (tile / 70) (used % 4));
    }
