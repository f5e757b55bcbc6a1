-- The modes' own formulas behind the table: pilots, where a point lies in its slot, and the reverse.
use Rattle.std.specs.Prelude.{Bool, false, ℕ, ◌*◌, ◌%◌}
use Rattle.carriers.specs.declared.Spot.{Spot}
use Rattle.carriers.specs.declared.Address.{Address}
use Rattle.carriers.specs.Bin.{is_bin_pilot, data_of_used, bin_spot, in_only_symbol}
use Rattle.clusters.specs.Cluster.{is_cluster_pilot}
use Rattle.pusc_ul.specs.Tile.{is_tile_pilot}
use Rattle.pilot_list.specs.List.{is_in}
use Rattle.modes.specs.Setup.{Setup}
use Rattle.modes.specs.Mode.{shape_of, by_mode, width, symbols}
use Rattle.pusc_dl.specs.Map as pusc-dl
use Rattle.pusc_ul.specs.Map as pusc-ul
use Rattle.ofusc.specs.Map as ofusc
use Rattle.amc.specs.Map as amc
use Rattle.fusc.specs.Map as fusc

-- Is a used number a pilot in a symbol of the zone? (Tiles go by the symbol in the slot; FUSC's are lent.)
unfoldable pub is_pilot : (setup : Setup) (symbol used : ℕ) → Bool
is_pilot setup symbol used =
    by_mode setup.mode
    (is_cluster_pilot symbol used)
    (is_tile_pilot (symbol % 3) used)
    (is_bin_pilot symbol used)
    (is_bin_pilot symbol used)
    (is_in setup.pilots used)
    false

-- Where an index of a subchannel lies in a slot. Pilots of bins go by the symbol's number in the zone; `first` is that of the slot's first symbol.
unfoldable pub spot_of : (setup : Setup) (slot subchannel index : ℕ) → Spot
spot_of setup slot subchannel index =
    let first = slot * symbols setup in
    by_mode setup.mode
    (pusc-dl.spot_of setup.cell subchannel index)
    (pusc-ul.spot_of setup.cell subchannel index)
    (bin_spot first (in_only_symbol (ofusc.data_number (width setup) setup.cell subchannel index)))
    (bin_spot first (amc.data_number (shape_of setup.mode) setup.cell subchannel index))
    (fusc.spot_of setup.pilots setup.cell subchannel index)
    (record { offset = 0; used = 0 })

-- The reverse: whose point a used number that is no pilot holds in a symbol of the zone.
unfoldable pub address_of : (setup : Setup) (symbol used : ℕ) → Address
address_of setup symbol used =
    let its = shape_of setup.mode in
    by_mode setup.mode
    (pusc-dl.address_of setup.cell (symbol % 2) used)
    (pusc-ul.address_of setup.cell (symbol % 3) used)
    (ofusc.address_of (width setup) setup.cell (data_of_used symbol used))
    (amc.address_of its setup.cell (symbol % its.symbols) (data_of_used symbol used))
    (fusc.address_of setup.pilots setup.cell used)
    (record { subchannel = 0; index = 0 })
