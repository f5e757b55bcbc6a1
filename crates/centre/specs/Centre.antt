-- Carriers counted from the centre: document 02, wish 3. On its row, by rising frequency, a symbol's carriers stand in columns 0 to size-1; a carrier's number is its column counted from DC.
use Rattle.std.specs.Prelude.{Bool, false, ℕ, ◌/◌, ℤ, pos, neg_ℤ, nat_abs, ◌+ℤ◌, ◌-ℤ◌}
use Rattle.std.specs.Int.Signed.{lt_z}
use Rattle.base.specs.Choice.{pick}

-- the number of the carrier in a column; DC, which in every mode stands in column size/2, is at 0
unfoldable pub from_dc : (size column : ℕ) → ℤ
from_dc size column = pos column -ℤ pos (size / 2)

-- from minus half the size to half the size less 1
unfoldable pub in_range : (size : ℕ) (carrier : ℤ) → Bool
in_range size carrier = pick (lt_z carrier (neg_ℤ (pos (size / 2)))) false (lt_z carrier (pos (size / 2)))

-- The reverse: where on its row a carrier of that range stands.
unfoldable pub on_row : (size : ℕ) (carrier : ℤ) → ℕ
on_row size carrier = nat_abs (carrier +ℤ pos (size / 2))
