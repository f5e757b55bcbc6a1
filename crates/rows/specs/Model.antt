-- How a subchannel's carriers are found fast. No reader needs this to know what the calls do.
use Rattle.std.specs.Prelude.{ℕ, ◌*◌, ◌%◌, ◌<◌}
use Rattle.base.specs.Model.{Turned}
use Rattle.carriers.specs.Model.{carrier_number}
use Rattle.modes.specs.Setup.{Setup}
use Rattle.modes.specs.Mode.{by_mode, band}
use Rattle.formulas.specs.Formula.{spot_of}
use Rattle.rows.specs.declared.CarrierRow.{CarrierRow}

-- how far a subchannel's row is shifted round: by data place in PUSC uplink, by group in optional FUSC, by the places of P in AMC, by turn in FUSC
unfoldable pub shift_of : (setup : Setup) (s : ℕ) → ℕ
shift_of setup s = by_mode setup.mode 0 (13 * s % 48) (23 * s % 48) (setup.cell % 48) (13 * s % 48) 0

-- the carrier of a point as a number, the size for each symbol of the slot
abbrev pub point_place : (setup : Setup) (slot s m : ℕ) → ℕ
point_place setup slot s m = carrier_number setup.size (band setup) (spot_of setup slot s m)

-- the carriers of a subchannel by index, from the row's `shift` on and going on at its start
abbrev pub RowOf : (setup : Setup) (slot s : ℕ) (row : CarrierRow) → Type 0
RowOf setup slot s row = (row.shift < 48) × Turned row.shift (point_place setup slot s) row.carriers
