-- `pusc_ul_rows::tiles` meets its contract.
use Rattle.base.proofs.{Tabulate.{Written}}
use Rattle.pusc_ul.specs.Tile.{tile_subchannel}
use Rattle.pusc_ul_rows.proofs.tiles.Given as goal

abbrev pub invariant-loop-k : goal.invariant-loop-k
invariant-loop-k l = Written 120 (tile_subchannel l.cell) l.row l.k
