-- How a data number is found by a lent copy of the sequence. No reader needs this to know what the calls do.
use Rattle.std.specs.Prelude.{ℕ, ◌+◌, ◌*◌, ◌%◌}
use Rattle.base.specs.Steps.{entry}
use Rattle.fusc.specs.Table.{sequence}

-- the data number of turn n of a subchannel, one in each 32 data numbers
unfoldable pub turn_number : (cell subchannel n : ℕ) → ℕ
turn_number cell subchannel n = n * 32 + (entry sequence ((subchannel + n) % 32) + cell) % 32
