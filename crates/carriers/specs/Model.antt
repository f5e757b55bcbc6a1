-- Rows of spots and of their carriers as numbers. No reader needs this to know what the calls do.
use Rattle.std.specs.Prelude.{ℕ, ◌+◌, ◌*◌, ◌%◌, leb}
use Rattle.base.specs.Choice.{pick}
use Rattle.carriers.specs.declared.Band.{Band}
use Rattle.carriers.specs.declared.Spot.{Spot}
use Rattle.carriers.specs.declared.Address.{Address}
use Rattle.carriers.specs.Band.{carrier_of}

-- 2048 for each symbol of the slot, since no size is larger
abbrev pub spot_number : (x : Spot) → ℕ
spot_number x = x.offset * 2048 + x.used

-- a spot's carrier as one number, which counts the size for each symbol of the slot
abbrev pub carrier_number : (size : ℕ) (b : Band) (x : Spot) → ℕ
carrier_number size b x = x.offset * size + carrier_of b x.used

-- the carrier's number of a spot's number, at size 2048, by sums of steps
unfoldable pub carrier_step : (b : Band) (x : ℕ) → ℕ
carrier_step b x = x + b.left + pick (leb b.half (x % 2048)) 1 0

-- the number of a point among those of subchannels one after another, 48 a subchannel
abbrev pub address_number : (a : Address) → ℕ
address_number a = a.subchannel * 48 + a.index
