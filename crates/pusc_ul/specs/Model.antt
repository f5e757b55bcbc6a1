-- How a tile is found by a lent copy of Q. No reader needs this to know what the calls do.
use Rattle.std.specs.Prelude.{ℕ, ◌+◌, ◌%◌}
use Rattle.base.specs.Steps.{entry}
use Rattle.pusc_ul.specs.Table.{tile_permutation}

-- tile t of a subchannel, counted from 70t
unfoldable pub tile_of_seventy : (cell subchannel t : ℕ) → ℕ
tile_of_seventy cell subchannel t = (entry tile_permutation ((subchannel + t) % 70) + cell) % 70
