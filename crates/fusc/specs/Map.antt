-- The permutation of FUSC (mode 7, mandatory full usage). Document 02, wish 8.
use Rattle.std.specs.Prelude.{List, ℕ, ◌+◌, ◌*◌, ◌/◌, ◌%◌}
use Rattle.base.specs.Steps.{entry, unrotate}
use Rattle.carriers.specs.declared.Spot.{Spot}
use Rattle.carriers.specs.declared.Address.{Address}
use Rattle.pilot_list.specs.List.{used_of_data, data_of_used}
use Rattle.fusc.specs.Table.{sequence, sequence_inverse}

-- With n = (k+13s) mod 48, data number = 32n + (the sequence of document 000 at (n+s) mod 32, plus cell) mod 32.
unfoldable pub data_number : (cell s k : ℕ) → ℕ
data_number cell s k =
    let n = (k + 13 * s) % 48 in
    n * 32 + (entry sequence ((s + n) % 32) + cell) % 32

-- The reverse: the subchannel of a data number.
unfoldable pub data_subchannel : (cell d : ℕ) → ℕ
data_subchannel cell d = unrotate 32 (d / 32) (entry sequence_inverse (unrotate 32 cell (d % 32)))

-- The reverse: the index of a data number.
unfoldable pub data_index : (cell d : ℕ) → ℕ
data_index cell d = unrotate 48 (13 * data_subchannel cell d) (d / 32)

-- Where a point lies in its slot of one symbol, whose pilots are lent: data numbers run over what is left.
unfoldable pub spot_of : (pilots : List ℕ) (cell subchannel index : ℕ) → Spot
spot_of pilots cell subchannel index = record { offset = 0; used = used_of_data pilots (data_number cell subchannel index) }

-- The reverse: the address of the point on a used number that is no pilot.
unfoldable pub address_of : (pilots : List ℕ) (cell used : ℕ) → Address
address_of pilots cell used =
    let d = data_of_used pilots used in
    record { subchannel = data_subchannel cell d; index = data_index cell d }
