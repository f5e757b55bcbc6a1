-- Bins: document 01, "Carriers of modes 2 and 3": nine used numbers make a bin; in symbol y of the zone the pilot is at place 3(y mod 3)+1 of each bin, the other eight are data places 0..7 ascending. Data number d is place d mod 8 of bin d div 8.
use Rattle.std.specs.Prelude.{Bool, ℕ, ◌+◌, ◌*◌, ◌/◌, ◌%◌, eqb}
use Rattle.base.specs.Steps.{skip, unskip}
use Rattle.carriers.specs.declared.Spot.{Spot}
use Rattle.carriers.specs.declared.DataNumber.{DataNumber}

unfoldable pub bin_pilot_place : (symbol : ℕ) → ℕ
bin_pilot_place symbol = 3 * (symbol % 3) + 1

unfoldable pub is_bin_pilot : (symbol used : ℕ) → Bool
is_bin_pilot symbol used = eqb (used % 9) (bin_pilot_place symbol)

-- the used number of data number d
unfoldable pub used_of_data : (symbol d : ℕ) → ℕ
used_of_data symbol d = d / 8 * 9 + skip (bin_pilot_place symbol) (d % 8)

-- The reverse: the data number of a used number that is no pilot.
unfoldable pub data_of_used : (symbol used : ℕ) → ℕ
data_of_used symbol used = used / 9 * 8 + unskip (bin_pilot_place symbol) (used % 9)

-- where a data number of a slot lies, whose first symbol has the number `first` in the zone: each symbol has its own pilots
abbrev pub bin_spot : (first : ℕ) (x : DataNumber) → Spot
bin_spot first x = record { offset = x.offset; used = used_of_data (first + x.offset) x.number }

-- data number d in a slot of one symbol
abbrev pub in_only_symbol : (d : ℕ) → DataNumber
in_only_symbol d = record { offset = 0; number = d }
