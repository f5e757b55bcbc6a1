-- What is claimed of a symbol's carriers, and the one law that every mode meets.
use Rattle.std.specs.Prelude.{◌≡◌, Bool, false, ℕ, ◌+◌, ◌<◌}
use Rattle.carriers.specs.declared.Band.{Band}
use Rattle.carriers.specs.declared.Spot.{Spot}
use Rattle.carriers.specs.declared.DataNumber.{DataNumber}
use Rattle.carriers.specs.declared.Address.{Address}
use Rattle.carriers.specs.Band.{carrier_of, used_of, is_guard, is_dc}

-- A band takes up its symbol: the left guards, the used carriers, with DC before that of the used number `half`, and the right guards.
pub record Whole (b : Band) (size : ℕ) : Type 0 where
  pub dc_is : b.dc ≡ b.left + b.half
  pub half_lt : b.half < b.used
  pub size_is : size ≡ b.left + (b.used + 1) + b.right

-- The used numbers and the columns that are neither guard nor DC are the same, one for one and in the same order. Its proof, for every band that is whole, is `band_law`; those of all modes are (`pusc-band`, `bin-band`, `fusc-band`).
pub record BandLaw (b : Band) (size : ℕ) : Type 0 where
  -- A larger used number is in a column further on.
  pub rising : (used next : ℕ) → used < next → carrier_of b used < carrier_of b next
  -- Each used number has a column of the row, neither guard nor DC, and is that column's used number.
  pub column_lt : (used : ℕ) → used < b.used → carrier_of b used < size
  pub no_guard : (used : ℕ) → used < b.used → is_guard b size (carrier_of b used) ≡ false
  pub no_dc : (used : ℕ) → used < b.used → is_dc b (carrier_of b used) ≡ false
  pub back : (used : ℕ) → used < b.used → used_of b (carrier_of b used) ≡ used
  -- Each such column has a used number, and is that used number's column.
  pub used_lt : (column : ℕ) → is_guard b size column ≡ false → is_dc b column ≡ false → used_of b column < b.used
  pub forth : (column : ℕ) → is_guard b size column ≡ false → is_dc b column ≡ false → carrier_of b (used_of b column) ≡ column

-- The law of a slot: its points, 48 for each subchannel, and its data carriers are the same, one for one.

-- a spot in a slot of so many symbols, with so many used numbers, that is no pilot
pub record DataSpot (symbols used : ℕ) (is_pilot : ℕ → ℕ → Bool) (x : Spot) : Type 0 where
  pub offset_lt : x.offset < symbols
  pub used_lt : x.used < used
  pub no_pilot : is_pilot x.offset x.used ≡ false

-- an address in a slot of so many subchannels
pub record PointOf (subchannels : ℕ) (a : Address) : Type 0 where
  pub subchannel_lt : a.subchannel < subchannels
  pub index_lt : a.index < 48

-- `spot` puts each point on a data carrier of the slot and `address` finds it there; `address` knows each data carrier's point and `spot` puts it there.
pub record SlotLaw (symbols subchannels used : ℕ) (is_pilot : ℕ → ℕ → Bool) (spot : ℕ → ℕ → Spot) (address : ℕ → ℕ → Address) : Type 0 where
  pub lies : (s m : ℕ) → s < subchannels → m < 48 → DataSpot symbols used is_pilot (spot s m)
  pub back : (s m : ℕ) → s < subchannels → m < 48
      → address (spot s m).offset (spot s m).used ≡ record { subchannel = s; index = m }
  pub names : (o u : ℕ) → o < symbols → u < used → is_pilot o u ≡ false → PointOf subchannels (address o u)
  pub forth : (o u : ℕ) → o < symbols → u < used → is_pilot o u ≡ false
      → spot (address o u).subchannel (address o u).index ≡ record { offset = o; used = u }

-- The law of a slot in a mode over bins: its points, 48 for each subchannel, and its data numbers, so many in each symbol of the slot, are the same, one for one.
pub record NumberLaw (symbols subchannels numbers : ℕ) (place : ℕ → ℕ → DataNumber) (address : ℕ → ℕ → Address) : Type 0 where
  pub offset_lt : (s m : ℕ) → s < subchannels → m < 48 → (place s m).offset < symbols
  pub number_lt : (s m : ℕ) → s < subchannels → m < 48 → (place s m).number < numbers
  pub back : (s m : ℕ) → s < subchannels → m < 48 → address (place s m).offset (place s m).number ≡ record { subchannel = s; index = m }
  pub names : (o d : ℕ) → o < symbols → d < numbers → PointOf subchannels (address o d)
  pub forth : (o d : ℕ) → o < symbols → d < numbers → place (address o d).subchannel (address o d).index ≡ record { offset = o; number = d }
