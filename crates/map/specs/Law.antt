-- What is claimed of the map: THE LAW OF THE MAP, for every setup that questions 1, 2, 3 and 20 let pass. Its proof is `map_law`.
use Rattle.std.specs.Prelude.{◌≡◌, false, true, ◌↔◌, ℕ, ◌+◌, ◌*◌, ◌/◌, ◌<◌, ℤ, pos, ◌<ℤ◌}
use Rattle.base.specs.Answer.{accepted, ask}
use Rattle.centre.specs.Centre.{from_dc}
use Rattle.modes.specs.Setup.{Setup}
use Rattle.modes.specs.Mode.{subchannels, symbols, band}
use Rattle.formulas.specs.Formula.{is_pilot}
use Rattle.modes.specs.Question.{is_lent, ask_setup}
use Rattle.map.specs.Place.{Place, Content, dc, pilot, point, used_carrier, place_of, locate_of}

-- questions 1, 2, 3 and 20 let the setup pass
abbrev pub Passes : (setup : Setup) → Type 0
Passes setup = ask_setup {A = Unit {0}} setup (ask (is_lent setup) 20 (accepted tt)) ≡ accepted tt

-- `place` puts the point of a slot there
abbrev pub PlacedAt : (setup : Setup) (slot subchannel index symbol : ℕ) (carrier : ℤ) → Type 0
PlacedAt setup slot subchannel index symbol carrier = place_of setup slot subchannel index ≡ accepted (record { symbol = symbol; carrier = carrier })

-- A carrier holds data in a symbol: it is the carrier of a used number that is no pilot there.
pub record HoldsData (setup : Setup) (symbol : ℕ) (carrier : ℤ) : Type 0 where
  pub used : ℕ
  pub used_below : used < (band setup).used
  pub carrier_is : used_carrier setup used ≡ carrier
  pub no_pilot : is_pilot setup symbol used ≡ false

-- One and only one subchannel and index of the slot is placed in the symbol on the carrier, and `locate` gives it.
pub record JustOnePoint (setup : Setup) (slot symbol : ℕ) (carrier : ℤ) : Type 0 where
  pub subchannel : ℕ
  pub index : ℕ
  pub is_placed : PlacedAt setup slot subchannel index symbol carrier
  pub no_other : (s m : ℕ) → PlacedAt setup slot s m symbol carrier → (s ≡ subchannel) × (m ≡ index)
  pub is_found : locate_of setup symbol carrier ≡ accepted (point slot subchannel index)

pub record MapLaw : Type 0 where
  -- Demand 2: each data subcarrier of a slot belongs to just one subchannel and index, and the reverse finds it.
  pub just_one_point : (setup : Setup) (slot offset : ℕ) (carrier : ℤ) → Passes setup → slot < 512 → offset < symbols setup
      → HoldsData setup (slot * symbols setup + offset) carrier ↔ JustOnePoint setup slot (slot * symbols setup + offset) carrier
  -- `locate` finds what `place` placed.
  pub located_where_placed : (setup : Setup) (slot subchannel index symbol : ℕ) (carrier : ℤ) → PlacedAt setup slot subchannel index symbol carrier
      → locate_of setup symbol carrier ≡ accepted (point slot subchannel index)
  -- `place` puts a point where `locate` found it.
  pub placed_where_located : (setup : Setup) (symbol : ℕ) (carrier : ℤ) (slot subchannel index : ℕ) → locate_of setup symbol carrier ≡ accepted (point slot subchannel index)
      → PlacedAt setup slot subchannel index symbol carrier
  -- Different addresses have different places, of different slots too.
  pub one_address : (setup : Setup) (slot s m slot' s' m' symbol : ℕ) (carrier : ℤ) → PlacedAt setup slot s m symbol carrier → PlacedAt setup slot' s' m' symbol carrier
      → (slot ≡ slot') × (s ≡ s') × (m ≡ m')
  -- A point lies in a symbol of its own slot.
  pub in_own_slot : (setup : Setup) (slot subchannel index symbol : ℕ) (carrier : ℤ) → PlacedAt setup slot subchannel index symbol carrier → symbol / symbols setup ≡ slot
  -- A pilot's carrier holds the pilot.
  pub pilot_found : (setup : Setup) (symbol used : ℕ) → Passes setup → symbol < 512 * symbols setup → used < (band setup).used → is_pilot setup symbol used ≡ true
      → locate_of setup symbol (used_carrier setup used) ≡ accepted pilot
  -- Carriers rise with their used numbers.
  pub carriers_rise : (setup : Setup) (used next : ℕ) → Passes setup → used < next → used_carrier setup used <ℤ used_carrier setup next
  -- Document 02, wish 3: DC is at 0, in every mode.
  pub dc_at_0 : (setup : Setup) (symbol : ℕ) → Passes setup → symbol < 512 * symbols setup → locate_of setup symbol (pos 0) ≡ accepted dc
  -- Fields in range, and the carrier of every column, are accepted, so that none of this is empty.
  pub place_accepts : (setup : Setup) (slot subchannel index : ℕ) → Passes setup → slot < 512 → subchannel < subchannels setup → index < 48
      → (p : Place) × (place_of setup slot subchannel index ≡ accepted p)
  pub locate_accepts : (setup : Setup) (symbol column : ℕ) → Passes setup → symbol < 512 * symbols setup → column < setup.size
      → (w : Content) × (locate_of setup symbol (from_dc setup.size column) ≡ accepted w)
