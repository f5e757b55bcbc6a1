-- How the points of a symbol are found fast. No reader needs this to know what the calls do.
use Rattle.std.specs.Prelude.{ℕ, ◌+◌, ◌*◌}
use Rattle.base.specs.Steps.{entry, unrotate}
use Rattle.fusc.specs.Table.{sequence_inverse}
use Rattle.fusc.specs.Map.{data_subchannel, data_index}

-- The reverse: where in the sequence the place x stands, turned back by the cell.
unfoldable pub turned_inverse : (cell x : ℕ) → ℕ
turned_inverse cell x = entry sequence_inverse (unrotate 32 cell x)

-- the number of the point of a data number, 48 a subchannel
abbrev pub point_of_data : (cell d : ℕ) → ℕ
point_of_data cell d = data_subchannel cell d * 48 + data_index cell d
