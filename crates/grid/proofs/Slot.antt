-- A slot's points and the places of its grid: from the law of the map.
use Rattle.base.proofs.Prelude.{◌≡◌, refl, sym, ap, ◌∙◌, Bool, true, false, List, ℕ, ◌+◌, ◌*◌, ◌/◌, ◌%◌, ◌<◌, mod-lt, div-add-mod', div-lt_iff_lt-mul}
use Rattle.base.proofs.Prelude.{arith, length, digits_lt, digits_div, digits_mod}
use Rattle.base.proofs.Tabulate.{turned_below}
use lib.Ieee.{Float}
use Rattle.base.specs.{Choice.pick, Answer.accepted}
use Rattle.carriers.specs.{declared.Band.Band, declared.Spot.Spot, Band.{carrier_of, used_of}, Law.DataSpot}
use Rattle.carriers.proofs.Guards.{carrier_lt, used-carrier}
use Rattle.centre.specs.Centre.{from_dc}
use Rattle.centre.proofs.Law.{one_column}
use Rattle.modes.specs.{Setup.Setup, Mode.{subchannels, symbols, band}}
use Rattle.formulas.specs.Formula.{is_pilot, spot_of}
use Rattle.map.specs.Place.{Content, guard, point, Place, used_carrier, place_at, content_of}
use Rattle.modes.specs.Model.{Ranged, Valid}
use Rattle.map.proofs.Law.{content_placed, locate_column, placed_where_located, placing}
use Rattle.formulas.proofs.Slot.{slot_law}
use Rattle.modes.proofs.Whole.{band_law, centred}
use Rattle.mask.specs.Mask.{is_lit, is_used_lit, lit_content}
use Rattle.mask.proofs.Law.{point_lit}
use Rattle.lengths.specs.Length.{grid_points_of, grid_points}
use Rattle.grid.specs.{Row.{column_position, used_position, row_of, column_of}, Grid.{content_at, stands_at, PlacedIn}}
use Rattle.points.specs.{declared.Point.Point, Points.{point_at, floats_of}, Model.puts}
use Rattle.points.proofs.Points.{length_floats, puts_as}
use Rattle.copies.specs.Model.{turned, Within}
use Rattle.rows.specs.{declared.CarrierRow.CarrierRow, Model.{point_place, RowOf}}

-- a grid by its points has the length that is asked for
pub floats_long : (setup : Setup) (f : ℕ → Point) → length (floats_of (grid_points setup) f) ≡ 2 * grid_points setup
floats_long setup f = length_floats (grid_points setup) f ∙ omega arith

-- the row and the column of a position
module _ (setup : Setup) (row k : ℕ) (h : k < setup.size) where
  pub row_position : row_of setup (column_position setup row k) ≡ row
  unfolding row_of column_position
  row_position = digits_div row h

  pub column-position : column_of setup (column_position setup row k) ≡ k
  unfolding column_of column_position
  column-position = digits_mod row h

  pub position_lt : row < symbols setup → column_position setup row k < grid_points setup
  unfolding column_position grid_points_of
  position_lt l = digits_lt l h

-- what is worked out is the position, and small
pub position_is : {setup : Setup} → Ranged setup → (row carrier : ℕ) → row < symbols setup → carrier < setup.size → (r k : ℕ) → r ≡ row → k ≡ carrier
    → (r * setup.size + k ≡ column_position setup row carrier) × (r * setup.size + k < grid_points setup)
unfolding column_position
position_is {setup} v row carrier l h r k e q = rw (e, q) (refl, position_lt setup row carrier h l)

-- a used number stands in its row
module _ (setup : Setup) (v : Ranged setup) (row u : ℕ) (h : u < (band setup).used) where
  in_size : carrier_of (band setup) u < setup.size
  in_size = carrier_lt (band setup) setup.size (band_law v) u h

  pub used_row : row_of setup (used_position setup row u) ≡ row
  unfolding used_position
  used_row = row_position setup row (carrier_of (band setup) u) in_size

  pub used_column : column_of setup (used_position setup row u) ≡ carrier_of (band setup) u
  unfolding used_position
  used_column = column-position setup row (carrier_of (band setup) u) in_size

  pub used_position_lt : row < symbols setup → used_position setup row u < grid_points setup
  unfolding used_position
  used_position_lt l = position_lt setup row (carrier_of (band setup) u) in_size l

pub used_position_is : {setup : Setup} → Ranged setup → (row used : ℕ) → row < symbols setup → used < (band setup).used
    → (b : Band) → b ≡ band setup → (k : ℕ) → k ≡ carrier_of b used
    → (row * setup.size + k ≡ used_position setup row used) × (row * setup.size + k < grid_points setup)
unfolding used_position
used_position_is {setup} v row used l h b e k q =
    position_is v row (carrier_of (band setup) used) l (in_size setup v row used h) row k refl (q ∙ ap (λ (x : Band). carrier_of x used) e)

-- whether point n of a grid is lit
abbrev pub lit_at : (setup : Setup) (mask n : ℕ) → Bool
lit_at setup mask n = is_used_lit setup mask (used_of (band setup) (column_of setup n))

-- a point that is seen under a mask is lit, and stands there where all is
lit_point : (lit : Bool) (w : Content) (a s m : ℕ) → pick lit w guard ≡ point a s m → (lit ≡ true) × (w ≡ point a s m)
lit_point true w a s m e = (refl, e)
lit_point false w a s m e = absurd (let z : ◌≡◌ {A = ℕ} 0 1 = cc in omega arith)

-- what a carrier holds that stands at point n of a slot's grid, where all is lit
abbrev pub holds_at : (setup : Setup) (slot n : ℕ) → Content
holds_at setup slot n = content_of setup (slot * symbols setup + row_of setup n) (column_of setup n)

-- a point of the slot stands in the grid, at a place that holds it
module _ (setup : Setup) (v : Valid setup) (slot s m : ℕ) (hs : s < subchannels setup) (hm : m < 48) where
  abbrev x : Spot
  x = spot_of setup slot s m

  spot_lies : DataSpot (symbols setup) (band setup).used (λ o u. is_pilot setup (slot * symbols setup + o) u) x
  spot_lies = (slot_law v slot).lies s m hs hm

  pub stands_lt : stands_at setup slot s m < grid_points setup
  unfolding stands_at
  stands_lt = used_position_lt setup v.ranged x.offset x.used spot_lies.used_lt spot_lies.offset_lt

  stands_column : column_of setup (stands_at setup slot s m) ≡ carrier_of (band setup) x.used
  unfolding stands_at
  stands_column = used_column setup v.ranged x.offset x.used spot_lies.used_lt

  stands_holds : holds_at setup slot (stands_at setup slot s m) ≡ point slot s m
  unfolding stands_at
  stands_holds =
      rw (used_row setup v.ranged x.offset x.used spot_lies.used_lt, used_column setup v.ranged x.offset x.used spot_lies.used_lt)
      (content_placed setup v slot s m hs hm)

  -- and that is lit exactly when its subchannel is
  stands_lit : (mask : ℕ) → lit_at setup mask (stands_at setup slot s m) ≡ is_lit setup mask s
  stands_lit mask =
      ap (λ (k : ℕ). is_used_lit setup mask (used_of (band setup) k)) stands_column
      ∙ ap (is_used_lit setup mask) (used-carrier (band setup) setup.size (band_law v.ranged) x.used spot_lies.used_lt)
      ∙ point_lit v.ranged mask slot s m hs hm

  pub lit_holds : (mask : ℕ) → is_lit setup mask s ≡ true → content_at setup mask slot (stands_at setup slot s m) ≡ point slot s m
  unfolding lit_content
  lit_holds mask e = rw (stands_lit mask ∙ e) stands_holds

-- where `place` puts a point of the slot is where it stands
pub placed_there : (setup : Setup) (slot s index symbol column : ℕ) → PlacedIn setup slot s index symbol column → column_position setup (symbol % symbols setup) column ≡ stands_at setup slot s index
unfolding stands_at used_position place_at used_carrier
placed_there setup slot s index symbol column e =
    let q = placing setup slot s index e in
    let x = spot_of setup slot s index in
    let o = ((slot_law q.is_valid slot).lies s index q.subchannel_lt q.index_lt).offset_lt in
    let y : slot * symbols setup + x.offset ≡ symbol = ap (λ (p : Place). p.symbol) q.place_is in
    let k : carrier_of (band setup) x.used ≡ column = one_column (centred q.is_valid.ranged).0 _ _ (ap (λ (p : Place). p.carrier) q.place_is) in
    rw (← y, ← k, digits_mod slot o)

-- so no two points stand at one place
pub stands_alone : (setup : Setup) (v : Valid setup) (slot s m s' m' : ℕ) → s < subchannels setup → m < 48 → s' < subchannels setup → m' < 48
    → stands_at setup slot s m ≡ stands_at setup slot s' m' → (s ≡ s') × (m ≡ m')
stands_alone setup v slot s m s' m' hs hm hs' hm' e =
    let p : point slot s m ≡ point slot s' m' =
    sym (stands_holds setup v slot s m hs hm) ∙ ap (holds_at setup slot) e ∙ stands_holds setup v slot s' m' hs' hm' in
    ((cc), (cc))

-- and a place that holds a point is where that point stands
pub record Stands (setup : Setup) (mask slot n s m : ℕ) : Type 0 where
  pub subchannel_lt : s < subchannels setup
  pub subchannel_lit : is_lit setup mask s ≡ true
  pub index_lt : m < 48
  pub stands : stands_at setup slot s m ≡ n

module _ (setup : Setup) (v : Valid setup) (slot : ℕ) (hs : slot < 512) (n : ℕ) (hn : n < grid_points setup) where
  size_pos : 0 < setup.size
  size_pos = let b = band_law v.ranged in omega (arith, b.size_is)

  pub row_lt : row_of setup n < symbols setup
  unfolding row_of grid_points_of
  row_lt = (div-lt_iff_lt-mul size_pos).1 hn

  pub column_lt : column_of setup n < setup.size
  unfolding column_of
  column_lt = mod-lt n size_pos

  pub at_place : column_position setup (row_of setup n) (column_of setup n) ≡ n
  unfolding column_position row_of column_of
  at_place = div-add-mod' n setup.size

  pub point-stands : (mask a s m : ℕ) → content_at setup mask slot n ≡ point a s m → Stands setup mask slot n s m
  unfolding stands_at used_position place_at used_carrier lit_content
  point-stands mask a s m e =
      let lit = lit_point _ _ a s m e in
      let l = locate_column setup (slot * symbols setup + row_of setup n) (column_of setup n) v (digits_lt hs row_lt) column_lt in
      let q = placing setup a s m (placed_where_located setup (slot * symbols setup + row_of setup n) (from_dc setup.size (column_of setup n)) a s m (l ∙ ap accepted lit.1)) in
      let o = ((slot_law v a).lies s m q.subchannel_lt q.index_lt).offset_lt in
      let y : a * symbols setup + (spot_of setup a s m).offset ≡ slot * symbols setup + row_of setup n = ap (λ (p : Place). p.symbol) q.place_is in
      let k : carrier_of (band setup) (spot_of setup a s m).used ≡ column_of setup n = one_column (centred v.ranged).0 _ _ (ap (λ (p : Place). p.carrier) q.place_is) in
      let same-slot : a ≡ slot = sym (digits_div a o) ∙ ap (λ (t : ℕ). t / symbols setup) y ∙ digits_div slot row_lt in
      let same_row : (spot_of setup a s m).offset ≡ row_of setup n = sym (digits_mod a o) ∙ ap (λ (t : ℕ). t % symbols setup) y ∙ digits_mod slot row_lt in
      let here : stands_at setup slot s m ≡ n = rw (← same-slot, same_row, k) at_place in
      record {
        subchannel_lt = q.subchannel_lt;
        subchannel_lit = sym (stands_lit setup v slot s m q.subchannel_lt q.index_lt mask) ∙ ap (lit_at setup mask) here ∙ lit.0;
        index_lt = q.index_lt;
        stands = here;
      }

-- the carrier of a point, as a number, is where the point stands
carrier_stands : (setup : Setup) (slot s m : ℕ) → point_place setup slot s m ≡ stands_at setup slot s m
unfolding stands_at used_position column_position
carrier_stands setup slot s m = refl

-- a subchannel's row: what the copies ask of it, and what they come to
module _ {setup : Setup} (v : Valid setup) (slot s : ℕ) (hs : s < subchannels setup) (row : CarrierRow) (t : RowOf setup slot s row) where
  pub row_at : (m : ℕ) → m < 48 → turned row.carriers row.shift m ≡ stands_at setup slot s m
  row_at m h = t.1 m h ∙ carrier_stands setup slot s m

  pub row_within : (floats : ℕ) → floats ≡ 2 * grid_points setup → Within row.carriers floats
  row_within floats long k h =
      omega (arith, turned_below row.shift (grid_points setup) _ row.carriers t.0 t.1 (λ m l. rw (carrier_stands setup slot s m) (stands_lt setup v slot s m hs l)) k h)

  pub row_laid : (points l l' : List Float) → l' ≡ puts (turned row.carriers row.shift) (point_at points) 48 l → l' ≡ puts (stands_at setup slot s) (point_at points) 48 l
  row_laid points l l' q = q ∙ puts_as _ _ _ _ 48 l row_at (λ m h. refl)
