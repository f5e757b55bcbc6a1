-- How a row of carriers is found fast. No reader needs this to know what the calls do.
use Rattle.std.specs.Prelude.{◌≡◌, ℕ, ◌+◌, ◌*◌, ◌%◌, ◌<◌, ◌≤◌, leb}
use Rattle.base.specs.Choice.{pick}
use Rattle.carriers.specs.Band.{bin_band}
use Rattle.carriers.specs.Bin.{bin_spot}
use Rattle.carriers.specs.Model.{carrier_number}
use Rattle.amc.specs.declared.Shape.{Shape}
use Rattle.amc.specs.Map.{traffic_number}
use Rattle.amc.specs.Model.{sequence_place}

-- N is even, so that DC lies between two subchannels
abbrev pub EvenWidth : (n : ℕ) → Type 0
EvenWidth n = (1 < n) × (n ≤ 32) × (n % 2 ≡ 0)

-- where the carrier of traffic place v stands in the slot's grid, N being n and `first` the number of the slot's first symbol
unfoldable pub traffic_carrier : (shape : Shape) (n first a v : ℕ) → ℕ
traffic_carrier shape n first a v = carrier_number (64 * n) (bin_band n) (bin_spot first (traffic_number shape a v))

-- how far subchannel a is from subchannel 0: by used numbers, and by DC
unfoldable pub subchannel_step : (shape : Shape) (n a : ℕ) → ℕ
subchannel_step shape n a = let used = a * shape.bins * 9 in used + pick (leb (27 * n) used) 1 0

-- the carriers of P's entries in a subchannel
unfoldable pub sequence_carrier : (shape : Shape) (n first cell a i : ℕ) → ℕ
sequence_carrier shape n first cell a i = traffic_carrier shape n first a (sequence_place cell i)
