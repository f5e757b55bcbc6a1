-- What is claimed of grids: THE LAW OF THE GRID, `GridLaw` below. Its proof is `grid-law`.
use Rattle.std.specs.Prelude.{◌≡◌, true, false, List, [], ◌∷◌, ◌⊎◌, ℕ, ◌*◌, ◌/◌, ◌%◌, ◌<◌, ◌≤◌, ltb, length, Float}
use Rattle.base.specs.Choice.{pick}
use Rattle.base.specs.Answer.{accepted}
use Rattle.carriers.specs.Band.{carrier_of, is_guard}
use Rattle.modes.specs.Setup.{Setup, setup_lent}
use Rattle.modes.specs.Mode.{subchannels, symbols, band}
use Rattle.formulas.specs.Formula.{is_pilot}
use Rattle.map.specs.Place.{Place, used_carrier, place_of}
use Rattle.map.specs.Law.{Passes}
use Rattle.mask.specs.Mask.{is_mask, is_lit, is_used_lit, lit_rank, all_lit}
use Rattle.points.specs.declared.Point.{Point}
use Rattle.points.specs.Points.{zero_point, point_at, floats_of}
use Rattle.lengths.specs.Length.{grid_points, points_length, lit_points_length, grid_length}
use Rattle.grid.specs.Row.{column_position}
use Rattle.grid.specs.Grid.{Leaves, point_number, standing, PlacedIn}
use Rattle.ground.specs.Ground.{ground_of}
use Rattle.lay.specs.Lay.{lay_of}
use Rattle.empty.specs.Empty.{empty_of, empty_first_of}
use Rattle.look.specs.Look.{look_of, nothing, pilot_with, data_with}
use Rattle.grid_law.specs.Filled.{filled, filled_all}

-- a subchannel and the points that are laid on its carriers
pub record Lay : Type 0 where
  pub subchannel : ℕ
  pub points : List Float

-- Lays of one slot, one after another, all accepted: the grid before, the lays, the grid after.
pub data Lays (setup : Setup) (mask slot : ℕ) : (before : List Float) (lays : List Lay) (after : List Float) → Type 0 where
  no_lay : {grid : List Float} → Lays setup mask slot grid [] grid
  lay_then : {before next after : List Float} {first : Lay} {rest : List Lay} → Leaves (lay_of setup mask slot first.subchannel first.points before) next
      → Lays setup mask slot next rest after → Lays setup mask slot before (first ∷ rest) after

-- no lay of the list is one of subchannel s
pub data Never (s : ℕ) : (lays : List Lay) → Type 0 where
  none : Never s []
  another : {first : Lay} {rest : List Lay} → (first.subchannel ≡ s → ⊥) → Never s rest → Never s (first ∷ rest)

-- Subchannel s occurs in the list, and the last of its lays has these points.
pub data LastLay (s : ℕ) (points : List Float) : (lays : List Lay) → Type 0 where
  here : {rest : List Lay} → Never s rest → LastLay s points (record { subchannel = s; points = points } ∷ rest)
  later : {first : Lay} {rest : List Lay} → LastLay s points rest → LastLay s points (first ∷ rest)

-- the points of lit subchannel s among those of all lit subchannels of a slot
unfoldable pub own_points : (setup : Setup) (mask : ℕ) (points : List Float) (s : ℕ) → List Float
own_points setup mask points s = floats_of 48 (λ index. point_at points (point_number (lit_rank setup mask s) index))

-- what holds of a grid after the ground with the pilot point p and these lays, of all lit subchannels or of some
pub record LaidGrid (setup : Setup) (mask slot : ℕ) (p : Point) (lays : List Lay) (grid : List Float) : Type 0 where
  -- Every lit pilot holds the pilot point.
  pub pilots_lit : (symbol used : ℕ) → symbol / symbols setup ≡ slot → used < (band setup).used → is_pilot setup symbol used ≡ true → is_used_lit setup mask used ≡ true
      → standing setup grid symbol (carrier_of (band setup) used) ≡ p
  -- Guards and DC hold 0.0.
  pub zero_on_guards : (symbol column : ℕ) → symbol / symbols setup ≡ slot → column < setup.size → is_guard (band setup) setup.size column ≡ true
      → standing setup grid symbol column ≡ zero_point
  pub zero_on_dc : (symbol : ℕ) → symbol / symbols setup ≡ slot → standing setup grid symbol (band setup).dc ≡ zero_point
  -- Document 02, wish 5: pilots and data of unlit groups hold zeros.
  pub zero_on_unlit : (symbol used : ℕ) → symbol / symbols setup ≡ slot → used < (band setup).used → is_used_lit setup mask used ≡ false
      → standing setup grid symbol (carrier_of (band setup) used) ≡ zero_point
  -- Each data carrier of a subchannel that was not laid holds 0.0, and of one that was laid its point of the last lay.
  pub zero_unless_laid : (s index symbol column : ℕ) → PlacedIn setup slot s index symbol column → Never s lays → standing setup grid symbol column ≡ zero_point
  pub last_lay_stands : (s index symbol column : ℕ) (points : List Float) → PlacedIn setup slot s index symbol column → LastLay s points lays
      → standing setup grid symbol column ≡ point_at points index

-- what holds of a grid that is filled with these points of a slot's lit subchannels and the pilot point p
pub record FilledGrid (setup : Setup) (mask slot : ℕ) (p : Point) (points grid : List Float) : Type 0 where
  -- The grid is the one that document 01 defines, where only the mask's groups are lit.
  pub is_filled : grid ≡ filled setup mask slot p points
  -- Both buffers have the lengths that are told.
  pub lengths_fit : (length points ≡ lit_points_length setup.mode setup.size mask) × (length grid ≡ grid_length setup.mode setup.size)
  -- Emptying it gives the points back, whatever the points' buffer held.
  pub emptied_again : (before : List Float) → length before ≡ length points → Leaves (empty_of setup mask slot grid before) points
  -- Looking at the place of a lit point shows that point and its address.
  pub look_at_point : (subchannel index : ℕ) (place : Place) → is_lit setup mask subchannel ≡ true → place_of setup slot subchannel index ≡ accepted place
      → look_of setup mask place.symbol grid place.carrier ≡ accepted (data_with (point_at points (point_number (lit_rank setup mask subchannel) index)) slot subchannel index)
  -- Looking at a lit pilot, in a symbol of the slot, shows the pilot point.
  pub look_at_pilot : (symbol used : ℕ) → symbol / symbols setup ≡ slot → used < (band setup).used → is_pilot setup symbol used ≡ true → is_used_lit setup mask used ≡ true
      → look_of setup mask symbol grid (used_carrier setup used) ≡ accepted (pilot_with p)

pub record GridLaw : Type 0 where
  -- Document 02, wishes 4 and 5: the ground, and then every lit subchannel in whichever order, gives the filled grid, whatever the buffer held and whatever the mask. The lays are any list in which every lit subchannel occurs, as often as one likes; of each subchannel the last lay counts.
  pub two_moves : (setup : Setup) (mask slot : ℕ) (p : Point) (points old ground grid : List Float) (lays : List Lay)
      → Leaves (ground_of setup mask slot p old) ground → Lays setup mask slot ground lays grid
      → length points ≡ lit_points_length setup.mode setup.size mask
      → ((s : ℕ) → s < subchannels setup → is_lit setup mask s ≡ true → LastLay s (own_points setup mask points s) lays)
      → FilledGrid setup mask slot p points grid
  -- After a lay, looking at the place of one of its points shows that point.
  pub laid_is_seen : (setup : Setup) (mask slot s : ℕ) (points grid next : List Float) → Leaves (lay_of setup mask slot s points grid) next
      → (index : ℕ) (place : Place) → place_of setup slot s index ≡ accepted place
      → look_of setup mask place.symbol next place.carrier ≡ accepted (data_with (point_at points index) slot s index)
  -- A lay changes no float but its own 96: what stands anywhere else, pilots, guards, DC and the points of other subchannels, stays.
  pub lay_touches_its_own : (setup : Setup) (mask slot s : ℕ) (points grid next : List Float) → Leaves (lay_of setup mask slot s points grid) next
      → (n : ℕ) → n < grid_points setup → ((index symbol column : ℕ) → PlacedIn setup slot s index symbol column → column_position setup (symbol % symbols setup) column ≡ n → ⊥)
      → point_at next n ≡ point_at grid n
  -- So a lay of another subchannel changes none of a subchannel's points, laid before or not, lit or not.
  pub others_stay : (setup : Setup) (mask slot s : ℕ) (points grid next : List Float) → Leaves (lay_of setup mask slot s points grid) next
      → (other index symbol column : ℕ) → (other ≡ s → ⊥) → PlacedIn setup slot other index symbol column → standing setup next symbol column ≡ standing setup grid symbol column
  -- Document 02, wish 4: data change every slot, pilots seldom. After the ground and any list of lays, of all subchannels or of some, each carrier of the slot holds what it should.
  pub laid_in_part : (setup : Setup) (mask slot : ℕ) (p : Point) (old ground grid : List Float) (lays : List Lay)
      → Leaves (ground_of setup mask slot p old) ground → Lays setup mask slot ground lays grid → LaidGrid setup mask slot p lays grid
  -- One ground serves every slot that agrees with its own mod 3; and every slot at all in PUSC downlink, in FUSC with the same list, and where a slot has three or six symbols.
  pub ground_mod_3 : (setup : Setup) (mask slot other : ℕ) (p : Point) (old : List Float) → slot < 512 → other < 512 → slot % 3 ≡ other % 3
      → ground_of setup mask slot p old ≡ ground_of setup mask other p old
  pub ground_always : (setup : Setup) (mask slot other : ℕ) (p : Point) (old : List Float) → slot < 512 → other < 512 → (setup.mode ≡ 0) ⊎ ((setup.mode ≡ 7) ⊎ (symbols setup % 3 ≡ 0))
      → ground_of setup mask slot p old ≡ ground_of setup mask other p old
  -- Where all is lit one ground serves every cell too.
  pub ground_every_cell : (mode size cell other slot : ℕ) (pilots : List ℕ) (p : Point) (old : List Float) → Passes (setup_lent mode size cell pilots) → Passes (setup_lent mode size other pilots)
      → ground_of (setup_lent mode size cell pilots) (all_lit mode) slot p old ≡ ground_of (setup_lent mode size other pilots) (all_lit mode) slot p old
  -- Document 02, wish 5: laying an unlit subchannel meets 5.
  pub unlit_meets_5 : (setup : Setup) (mask slot s : ℕ) (points grid : List Float) → Passes setup → is_mask setup.mode mask ≡ true → slot < 512
      → s < subchannels setup → is_lit setup mask s ≡ false → lay_of setup mask slot s points grid ≡ record { refusal = 5; buffer = grid }
  -- Document 02, wish 5: look answers nothing on what is not lit, whatever the grid holds there.
  pub unlit_is_nothing : (setup : Setup) (mask symbol used : ℕ) (grid : List Float) → Passes setup → is_mask setup.mode mask ≡ true → symbol < 512 * symbols setup
      → used < (band setup).used → is_used_lit setup mask used ≡ false → length grid ≡ grid_length setup.mode setup.size
      → look_of setup mask symbol grid (used_carrier setup used) ≡ accepted nothing
  -- Document 02, wish 6: emptying only the first carriers of the grid writes the points that stand on these and no other float. A lit subchannel's point whose carrier is among them is what the grid holds there; any other is as it was.
  pub first_writes : (setup : Setup) (mask slot carriers : ℕ) (grid points next : List Float) → Leaves (empty_first_of setup mask slot carriers grid points) next
      → (s index symbol column : ℕ) → is_lit setup mask s ≡ true → PlacedIn setup slot s index symbol column
      → point_at next (point_number (lit_rank setup mask s) index)
      ≡ pick (ltb (column_position setup (symbol % symbols setup) column) carriers) (standing setup grid symbol column)
      (point_at points (point_number (lit_rank setup mask s) index))
  -- Document 02, wish 6: emptying the first carriers, with a count of all carriers or more, is emptying.
  pub first_of_all : (setup : Setup) (mask slot carriers : ℕ) (grid points : List Float) → grid_points setup ≤ carriers
      → empty_first_of setup mask slot carriers grid points ≡ empty_of setup mask slot grid points
  -- Emptying by a first count and then by a larger one is emptying by the larger one alone, also where more has come into the grid since.
  pub first_then_more : (setup : Setup) (mask slot fewer more : ℕ) (earlier grid points : List Float) → length earlier ≡ length grid → fewer ≤ more
      → empty_first_of setup mask slot more grid (empty_first_of setup mask slot fewer earlier points).buffer ≡ empty_first_of setup mask slot more grid points
  -- With a count of none nothing is written.
  pub first_of_none : (setup : Setup) (mask slot : ℕ) (grid points : List Float) → (empty_first_of setup mask slot 0 grid points).buffer ≡ points
  -- Document 02, wish 6: there is no question about the count. Emptying the first carriers is refused where empty is, with the same number.
  pub first_refused_alike : (setup : Setup) (mask slot carriers : ℕ) (grid points : List Float)
      → (empty_first_of setup mask slot carriers grid points).refusal ≡ (empty_of setup mask slot grid points).refusal
  -- An accepted move leaves the grid as long as it was.
  pub ground_keeps_length : (setup : Setup) (mask slot : ℕ) (p : Point) (old ground : List Float) → Leaves (ground_of setup mask slot p old) ground → length ground ≡ length old
  pub lay_keeps_length : (setup : Setup) (mask slot s : ℕ) (points grid next : List Float) → Leaves (lay_of setup mask slot s points grid) next → length next ≡ length grid
  -- Buffers of the lengths that are told are accepted, so that none of this is empty.
  pub ground_accepts : (setup : Setup) (mask slot : ℕ) (p : Point) (old : List Float) → Passes setup → is_mask setup.mode mask ≡ true → slot < 512
      → length old ≡ grid_length setup.mode setup.size → (ground_of setup mask slot p old).refusal ≡ 0
  pub lay_accepts : (setup : Setup) (mask slot s : ℕ) (points grid : List Float) → Passes setup → is_mask setup.mode mask ≡ true → slot < 512 → s < subchannels setup
      → is_lit setup mask s ≡ true → length points ≡ 96 → length grid ≡ grid_length setup.mode setup.size → (lay_of setup mask slot s points grid).refusal ≡ 0
  pub empty_accepts : (setup : Setup) (mask slot : ℕ) (grid old : List Float) → Passes setup → is_mask setup.mode mask ≡ true → slot < 512
      → length old ≡ lit_points_length setup.mode setup.size mask → length grid ≡ grid_length setup.mode setup.size
      → (empty_of setup mask slot grid old).refusal ≡ 0
  -- Where all is lit, the filled grid is that of document 01's own words, which know no mask, and the lit points are as long as all points.
  pub all_lit_filled : (setup : Setup) (slot : ℕ) (p : Point) (points : List Float) → filled setup (all_lit setup.mode) slot p points ≡ filled_all setup slot p points
  pub all_lit_length : (mode size : ℕ) → lit_points_length mode size (all_lit mode) ≡ points_length mode size
