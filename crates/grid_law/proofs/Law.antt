-- THE LAW OF THE GRID: it rests on the laws of the map and of the mask, and on no mode's text.
use Rattle.base.proofs.Prelude.{◌≡◌, refl, sym, ap, ◌∙◌, subst, true, false, List, [], ◌∷◌, ℕ, ◌+◌, ◌*◌, ◌/◌, ◌%◌, ◌<◌, mod-lt, div-add-mod'}
use Rattle.base.proofs.Prelude.{div-lt_iff_lt-mul, arith, digits_div, digits_mod, ltb, length, eq-eqb, ne_eqb}
use Rattle.base.proofs.Test.{cases}
use lib.{IntN.ℤ, Ieee.Float}
use Rattle.base.specs.{Choice.pick, Answer.accepted}
use Rattle.carriers.specs.Band.{carrier_of, used_of}
use Rattle.carriers.proofs.Guards.{carrier_lt, used-carrier}
use Rattle.centre.specs.Centre.{from_dc}
use Rattle.modes.specs.{Setup.Setup, Mode.{subchannels, symbols, band}}
use Rattle.map.specs.Law.{Passes}
use Rattle.formulas.specs.Formula.{is_pilot, spot_of}
use Rattle.map.specs.Place.{Place, Content, guard, dc, pilot, point, used_carrier, place_at, place_of, content_of}
use Rattle.modes.proofs.{ByMode.few, Whole.{band_law, centred}}
use Rattle.formulas.proofs.Slot.{slot_law}
use Rattle.map.proofs.Claims.{passed as passed-valid}
use Rattle.map.proofs.Law.{placing, place_accepts, content_placed, dc_content, pilot_content}
use Rattle.mask.specs.Mask.{is_mask, is_lit, is_used_lit, lit_content, lit_subchannels, lit_rank, of_lit_rank, all_lit}
use Rattle.mask.proofs.Law.{mask_law, point_lit}
use Rattle.points.specs.{declared.Point.Point, Points.{zero_point, point_at, floats_of}}
use Rattle.points.proofs.Points.{point_floats, by_points}
use Rattle.lengths.specs.Length.{grid_points, lit_points_length, grid_length}
use Rattle.lengths.proofs.Refusal.{MaskAccepted}
use Rattle.questions.proofs.Refusal.{GroundAccepted, LookAccepted, ground_numbered, ground_0, empty_numbered, empty_0, look_0}
use Rattle.lay_questions.proofs.Refusal.{LayAccepted, lay_numbered, lay_unlit, lay_0}
use Rattle.lengths.proofs.Length.{lengths_listed, all_lit_length}
use Rattle.grid.specs.{Row.{column_position, used_position, row_of, column_of}, Grid.{Leaves, content_at, point_number, stands_at, PlacedIn}}
use Rattle.ground.specs.Ground.{bare, ground_of}
use Rattle.lay.specs.Lay.{relaid, lay_of}
use Rattle.empty.specs.Empty.{emptied, empty_of, empty_first_of}
use Rattle.look.specs.Look.{data_with, sight, look_of}
use Rattle.grid_law.specs.Law.{Lay, Lays, no_lay, lay_then, Never, none, another, LastLay, here, later, own_points, LaidGrid, FilledGrid}
use Rattle.grid_law.specs.Law.{GridLaw}
use Rattle.grid_law.specs.Filled.{held, filled, held_all, filled_all}
use Rattle.grid.proofs.Outcome.{refused_leaves, accepted_anew, accepted_number}
use Rattle.grid.proofs.Slot.{floats_long, row_position, column-position, position_lt, stands_lt, stands_alone, lit_holds, point-stands, placed_there}
use Rattle.ground.proofs.{Left.{ground_fits, ground_long, ground-at}, Alike.{ground_mod_3, ground_always, every_cell}}
use Rattle.lay.proofs.Left.{lay_fits, lay_long, lay_at}
use Rattle.empty.proofs.First.{refused_alike, of_all, of_none, then_more, left_at}
use Rattle.look.proofs.Looked.{look_done}

-- where a column of a zone's symbol stands in its slot's grid
abbrev there : (setup : Setup) (symbol column : ℕ) → ℕ
there setup symbol column = column_position setup (symbol % symbols setup) column

-- a carrier of a slot, which stands at place n of its grid and where w is shown
record OnGrid (setup : Setup) (mask slot : ℕ) (w : Content) (symbol : ℕ) (carrier : ℤ) (n : ℕ) : Type 0 where
  n_lt : n < grid_points setup
  n_holds : content_at setup mask slot n ≡ w
  -- what is seen where a grid has a point there
  looked : (grid : List Float) → length grid ≡ 2 * grid_points setup → (p : Point) → point_at grid n ≡ p → look_of setup mask symbol grid carrier ≡ accepted (sight p w)

module _ {setup : Setup} {mask : ℕ} (m : MaskAccepted setup mask) (slot : ℕ) (hs : slot < 512) where
  column_on_grid : (symbol column : ℕ) → symbol / symbols setup ≡ slot → column < setup.size
      → OnGrid setup mask slot (lit_content setup mask symbol column) symbol (from_dc setup.size column) (there setup symbol column)
  column_on_grid symbol column own h =
      let pos = (few m.valid.ranged).symbols_pos in
      let row = symbol % symbols setup in
      let carrier = from_dc setup.size column in
      let l = (centred m.valid.ranged).0 in
      let y : slot * symbols setup + row ≡ symbol = ap (λ (t : ℕ). t * symbols setup + row) (sym own) ∙ div-add-mod' symbol (symbols setup) in
      record {
        n_lt = position_lt setup row column h (mod-lt symbol pos);
        n_holds = rw (row_position setup row column h, column-position setup row column h, y);
        looked = λ grid long p e.
            let asked : LookAccepted setup mask symbol carrier (length grid) =
            record { lit = m; symbol_lt = (div-lt_iff_lt-mul pos).0 (rw own hs); in-range = l.in-range column h; grid_long = long } in
            sym (look_done setup mask symbol carrier carrier refl grid 0 (look_0 setup mask symbol carrier (length grid) asked) refl column (sym (l.back column)) _ refl p (sym e) _ refl);
      }

  -- a used number's carrier
  used_on_grid : (symbol used : ℕ) → symbol / symbols setup ≡ slot → used < (band setup).used
      → OnGrid setup mask slot (pick (is_used_lit setup mask used) (content_of setup symbol (carrier_of (band setup) used)) guard) symbol (used_carrier setup used)
      (there setup symbol (carrier_of (band setup) used))
  unfolding used_carrier lit_content
  used_on_grid symbol used own h =
      let b = band_law m.valid.ranged in
      rw (used-carrier (band setup) setup.size b used h) at
      (column_on_grid symbol (carrier_of (band setup) used) own (carrier_lt (band setup) setup.size b used h))

  -- a pilot's
  pilot_on_grid : (symbol used : ℕ) → symbol / symbols setup ≡ slot → used < (band setup).used → is_pilot setup symbol used ≡ true → is_used_lit setup mask used ≡ true
      → OnGrid setup mask slot pilot symbol (used_carrier setup used) (there setup symbol (carrier_of (band setup) used))
  pilot_on_grid symbol used own h is lit = rw (lit, pilot_content setup m.valid symbol used h is) at (used_on_grid symbol used own h)

  -- one that is not lit
  dark_on_grid : (symbol used : ℕ) → symbol / symbols setup ≡ slot → used < (band setup).used → is_used_lit setup mask used ≡ false
      → OnGrid setup mask slot guard symbol (used_carrier setup used) (there setup symbol (carrier_of (band setup) used))
  dark_on_grid symbol used own h dark = rw dark at (used_on_grid symbol used own h)

-- a point, at its place: its subchannel tells whether it is lit
module _ {setup : Setup} {mask : ℕ} (m : MaskAccepted setup mask) where
  point_on_grid : (slot s index : ℕ) (place : Place) → place_of setup slot s index ≡ accepted place
      → OnGrid setup mask slot (pick (is_lit setup mask s) (point slot s index) guard) place.symbol place.carrier (stands_at setup slot s index)
  unfolding stands_at used_position place_at
  point_on_grid slot s index place e =
      let q = placing setup slot s index e in
      let v = m.valid in
      let x = spot_of setup slot s index in
      let h = (slot_law v slot).lies s index q.subchannel_lt q.index_lt in
      subst (λ (t : Place). OnGrid setup mask slot (pick (is_lit setup mask s) (point slot s index) guard) t.symbol t.carrier (stands_at setup slot s index)) q.place_is
      (rw (
        point_lit v.ranged mask slot s index q.subchannel_lt q.index_lt,
        content_placed setup v slot s index q.subchannel_lt q.index_lt,
        digits_mod slot h.offset_lt,
      ) at
      (used_on_grid m slot q.slot_lt (slot * symbols setup + x.offset) x.used (digits_div slot h.offset_lt) h.used_lt))

-- ---- one lay

module _ (setup : Setup) (mask slot s : ℕ) (points grid next : List Float) (e : Leaves (lay_of setup mask slot s points grid) next) where
  abbrev asked : LayAccepted setup mask slot s (length points) (length grid)
  asked = lay_fits setup mask slot s points grid next e

  -- what stands and is seen then at the place of a point of the slot
  module _ (t index : ℕ) (place : Place) (q : place_of setup slot t index ≡ accepted place) where
    abbrev n : ℕ
    n = stands_at setup slot t index

    abbrev w : Content
    w = pick (is_lit setup mask t) (point slot t index) guard

    abbrev k : OnGrid setup mask slot w place.symbol place.carrier n
    k = point_on_grid asked.fits.lit slot t index place q

    stands_then : point_at next n ≡ relaid s points (point_at grid n) w
    stands_then = lay_at setup mask slot s points grid next e n k.n_lt ∙ ap (relaid s points (point_at grid n)) k.n_holds

    seen_then : look_of setup mask place.symbol next place.carrier ≡ accepted (sight (relaid s points (point_at grid n) w) w)
    seen_then = k.looked next (lay_long setup mask slot s points grid next e) _ stands_then

  own_seen : (index : ℕ) (place : Place) → place_of setup slot s index ≡ accepted place
      → look_of setup mask place.symbol next place.carrier ≡ accepted (data_with (point_at points index) slot s index)
  unfolding relaid sight
  own_seen index place q = rw (asked.subchannel_lit, eq-eqb s s refl) at (seen_then s index place q)

  -- a place where none of the subchannel's points stands
  not_own : (n : ℕ) → n < grid_points setup → ((index : ℕ) → index < 48 → stands_at setup slot s index ≡ n → ⊥) → (w : Content) → content_at setup mask slot n ≡ w
      → relaid s points (point_at grid n) w ≡ point_at grid n
  unfolding relaid
  not_own n hn miss guard c = refl
  not_own n hn miss dc c = refl
  not_own n hn miss pilot c = refl
  not_own n hn miss (point a t i) c =
      let q = point-stands setup asked.fits.lit.valid slot asked.fits.slot_lt n hn mask a t i c in
      rw (ne_eqb t s (λ e. miss i q.index_lt (rw (← e) q.stands)))

  elsewhere_stays : (n : ℕ) → n < grid_points setup → ((index : ℕ) → index < 48 → stands_at setup slot s index ≡ n → ⊥) → point_at next n ≡ point_at grid n
  elsewhere_stays n hn miss = lay_at setup mask slot s points grid next e n hn ∙ not_own n hn miss (content_at setup mask slot n) refl

  touches_its_own : (n : ℕ) → n < grid_points setup → ((index symbol column : ℕ) → PlacedIn setup slot s index symbol column → there setup symbol column ≡ n → ⊥) → point_at next n ≡ point_at grid n
  unfolding place_at used_carrier
  touches_its_own n hn miss =
      elsewhere_stays n hn
      (λ i h z. let q = place_accepts setup slot s i asked.fits.lit.valid asked.fits.slot_lt asked.subchannel_lt h in
      miss i _ _ q (placed_there setup slot s i _ _ q ∙ z))

  other_stands : (t index symbol column : ℕ) → (t ≡ s → ⊥) → PlacedIn setup slot t index symbol column → point_at next (there setup symbol column) ≡ point_at grid (there setup symbol column)
  other_stands t index symbol column ne e =
      let q = placing setup slot t index e in
      let v = asked.fits.lit.valid in
      rw (placed_there setup slot t index symbol column e)
      (elsewhere_stays (stands_at setup slot t index) (stands_lt setup v slot t index q.subchannel_lt q.index_lt)
      (λ i h z. ne (sym (stands_alone setup v slot s i t index asked.subchannel_lt h q.subchannel_lt q.index_lt z).0)))

-- ---- lays one after another

-- no lay of the list changes what stands where the content is w
data Untouched (w : Content) : (lays : List Lay) → Type 0 where
  no_more : Untouched w []
  still : {first : Lay} {rest : List Lay} → ((points : List Float) (old : Point) → relaid first.subchannel points old w ≡ old) → Untouched w rest → Untouched w (first ∷ rest)

-- a point whose subchannel is never laid, and all that is no point
never_touched : {s : ℕ} {lays : List Lay} (a m : ℕ) → Never s lays → Untouched (point a s m) lays
unfolding relaid
never_touched a m none = no_more
never_touched {s = s} a m (another {first = first} ne rest) = still {first = first} (λ points old. rw (ne_eqb s first.subchannel (λ z. ne (sym z)))) (never_touched a m rest)

no_point : (w : Content) → ((s : ℕ) (points : List Float) (old : Point) → relaid s points old w ≡ old) → (lays : List Lay) → Untouched w lays
no_point w h [] = no_more
no_point w h (first ∷ rest) = still (h first.subchannel) (no_point w h rest)

module _ {setup : Setup} {mask slot : ℕ} where
  lays_long : {before after : List Float} {lays : List Lay} → length before ≡ 2 * grid_points setup → Lays setup mask slot before lays after → length after ≡ 2 * grid_points setup
  lays_long long no_lay = long
  lays_long long (lay_then e rest) = lays_long (lay_long setup mask slot _ _ _ _ e) rest

  module _ (n : ℕ) (hn : n < grid_points setup) (w : Content) (c : content_at setup mask slot n ≡ w) where
    stays : {before after : List Float} {lays : List Lay} → Lays setup mask slot before lays after → Untouched w lays → point_at after n ≡ point_at before n
    stays no_lay no_more = refl
    stays (lay_then e rest) (still same more) = stays rest more ∙ lay_at setup mask slot _ _ _ _ e n hn ∙ rw c (same _ _)

  -- a subchannel that was laid is lit
  last_lit : {s : ℕ} {points before after : List Float} {lays : List Lay} → LastLay s points lays → Lays setup mask slot before lays after → is_lit setup mask s ≡ true
  last_lit (here never) (lay_then e rest) = (lay_fits setup mask slot _ _ _ _ e).subchannel_lit
  last_lit (later more) (lay_then e rest) = last_lit more rest

  last_counts : (n : ℕ) → n < grid_points setup → (a s m : ℕ) → content_at setup mask slot n ≡ point a s m → {points before after : List Float} {lays : List Lay}
      → LastLay s points lays → Lays setup mask slot before lays after → point_at after n ≡ point_at points m
  unfolding relaid
  last_counts n hn a s m c (here never) (lay_then e rest) =
      stays n hn (point a s m) c rest (never_touched a m never) ∙ lay_at setup mask slot s _ _ _ e n hn ∙ rw (c, eq-eqb s s refl)
  last_counts n hn a s m c (later more) (lay_then e rest) = last_counts n hn a s m c more rest

-- ---- the two moves

-- a grid that is filled
module _ (setup : Setup) (mask : ℕ) (m : MaskAccepted setup mask) (slot : ℕ) (hs : slot < 512) (p : Point) (points grid : List Float)
    (points_long : length points ≡ 96 * lit_subchannels setup mask) (is : grid ≡ filled setup mask slot p points) where
  long : length grid ≡ 2 * grid_points setup
  unfolding filled
  long = ap length is ∙ floats_long setup _

  -- what stands at a place of it
  holds : (n : ℕ) → n < grid_points setup → point_at grid n ≡ held setup mask p points (content_at setup mask slot n)
  unfolding filled
  holds n h = ap (λ (g : List Float). point_at g n) is ∙ point_floats (grid_points setup) _ n h

  back : (k : ℕ) → k < 48 * lit_subchannels setup mask → point_at points k ≡ point_at grid (stands_at setup slot (of_lit_rank setup mask (k / 48)) (k % 48))
  unfolding held
  back k h =
      let s = of_lit_rank setup mask (k / 48) in
      let r : k / 48 < lit_subchannels setup mask = omega arith in
      let law = mask_law.ranks setup mask (subchannels setup) in
      let lt = law.unrank_lt (k / 48) r in
      let i : k % 48 < 48 = omega arith in
      let same : point_number (k / 48) (k % 48) ≡ k = omega arith in
      let number : point_number (lit_rank setup mask s) (k % 48) ≡ k = ap (λ (x : ℕ). point_number x (k % 48)) (law.forth (k / 48) r) ∙ same in
      sym (holds (stands_at setup slot s (k % 48)) (stands_lt setup m.valid slot s (k % 48) lt i)
      ∙ ap (held setup mask p points) (lit_holds setup m.valid slot s (k % 48) lt i mask (law.unrank_passes (k / 48) r)) ∙ ap (point_at points) number)

  again : (before : List Float) → length before ≡ length points → Leaves (empty_of setup mask slot grid before) points
  unfolding empty_of emptied
  again before l =
      sym (accepted_anew _ _ _ (empty_numbered setup mask slot (length before) (length grid) _) before
      (sym (empty_0 setup mask slot (length before) (length grid) (record { fits = record { lit = m; slot_lt = hs; grid_long = long }; points_long = l ∙ points_long })))
      points (by_points points (48 * lit_subchannels setup mask) _ (points_long ∙ omega arith) back))

  -- what is seen on a carrier where w is shown
  seen_there : {w : Content} {symbol : ℕ} {carrier : ℤ} {n : ℕ} → OnGrid setup mask slot w symbol carrier n → look_of setup mask symbol grid carrier ≡ accepted (sight (held setup mask p points w) w)
  seen_there {n = n} k = k.looked grid long _ (holds n k.n_lt ∙ ap (held setup mask p points) k.n_holds)

  filled_grid : FilledGrid setup mask slot p points grid
  unfolding sight held
  filled_grid =
      let long' = lengths_listed m in
      record {
        is_filled = is;
        lengths_fit = (points_long ∙ long'.0, long ∙ long'.1);
        emptied_again = again;
        look_at_point = λ s index place lit h. rw lit at (seen_there (point_on_grid m slot s index place h));
        look_at_pilot = λ symbol used own h is lit. seen_there (pilot_on_grid m slot hs symbol used own h is lit);
      }

-- the ground, and then lays
module _ (setup : Setup) (mask slot : ℕ) (p : Point) (old ground grid : List Float) (lays : List Lay) (e : Leaves (ground_of setup mask slot p old) ground)
    (l : Lays setup mask slot ground lays grid) where
  abbrev fits : GroundAccepted setup mask slot (length old)
  fits = ground_fits setup mask slot p old ground e

  -- where no lay changes what is shown, it is as the ground has it
  as_the_ground : (n : ℕ) → n < grid_points setup → (w : Content) → content_at setup mask slot n ≡ w → Untouched w lays → point_at grid n ≡ bare p w
  as_the_ground n hn w c u = stays n hn w c l u ∙ ground-at setup mask slot p old ground e n hn ∙ ap (bare p) c

  -- on a used number
  shown_stays : {w : Content} {symbol : ℕ} {carrier : ℤ} {n : ℕ} → OnGrid setup mask slot w symbol carrier n → ((s : ℕ) (points : List Float) (old : Point) → relaid s points old w ≡ old)
      → point_at grid n ≡ bare p w
  shown_stays {w} {n = n} k h = as_the_ground n k.n_lt w k.n_holds (no_point w h lays)

  -- in a column that holds w, which is guard or DC
  nothing_stays : (w : Content) → ((s : ℕ) (points : List Float) (old : Point) → relaid s points old w ≡ old) → bare p w ≡ zero_point
      → (symbol column : ℕ) → symbol / symbols setup ≡ slot → column < setup.size → content_of setup symbol column ≡ w → point_at grid (there setup symbol column) ≡ zero_point
  unfolding lit_content bare relaid
  nothing_stays w h z symbol column own lt c =
      let k = column_on_grid fits.lit slot fits.slot_lt symbol column own lt in
      cases (is_used_lit setup mask (used_of (band setup) column))
      (λ t. shown_stays (rw (t, c) at k) h ∙ z)
      (λ t. shown_stays (rw t at k) (λ s x o. refl))

  -- at the place of a point
  module _ (s index symbol column : ℕ) (q : PlacedIn setup slot s index symbol column) where
    abbrev own : OnGrid setup mask slot (pick (is_lit setup mask s) (point slot s index) guard) symbol (from_dc setup.size column) (stands_at setup slot s index)
    own = point_on_grid fits.lit slot s index _ q

    abbrev there_stands : there setup symbol column ≡ stands_at setup slot s index
    there_stands = placed_there setup slot s index symbol column q

    never_laid : Never s lays → point_at grid (there setup symbol column) ≡ zero_point
    unfolding bare relaid
    never_laid never =
        rw there_stands
        (cases (is_lit setup mask s)
        (λ t. as_the_ground _ own.n_lt (point slot s index) (rw t at own.n_holds) (never_touched slot index never))
        (λ t. shown_stays (rw t at own) (λ s x o. refl)))

    last_laid : (points : List Float) → LastLay s points lays → point_at grid (there setup symbol column) ≡ point_at points index
    last_laid points last = rw there_stands (last_counts _ own.n_lt slot s index (rw (last_lit last l) at own.n_holds) last l)

  laid_grid : LaidGrid setup mask slot p lays grid
  unfolding bare relaid content_of
  laid_grid =
      let m = fits.lit in
      let hs = fits.slot_lt in
      let v = m.valid in
      record {
        pilots_lit = λ symbol used own h is lit. shown_stays (pilot_on_grid m slot hs symbol used own h is lit) (λ s x o. refl);
        zero_on_guards = λ symbol column own h g. nothing_stays guard (λ s x o. refl) refl symbol column own h (rw g);
        zero_on_dc = λ symbol own. nothing_stays dc (λ s x o. refl) refl symbol (band setup).dc own (let b = band_law v.ranged in omega (arith, b.size_is, b.dc_is, b.half_lt)) (dc_content setup v symbol);
        zero_on_unlit = λ symbol used own h dark. shown_stays (dark_on_grid m slot hs symbol used own h dark) (λ s x o. refl);
        zero_unless_laid = never_laid;
        last_lay_stands = λ s index symbol column points q. last_laid s index symbol column q points;
      }

-- in which every lit subchannel occurs
module _ (setup : Setup) (mask slot : ℕ) (p : Point) (points old ground grid : List Float) (lays : List Lay) (e : Leaves (ground_of setup mask slot p old) ground)
    (l : Lays setup mask slot ground lays grid) (every : (s : ℕ) → s < subchannels setup → is_lit setup mask s ≡ true → LastLay s (own_points setup mask points s) lays) where
  abbrev its : GroundAccepted setup mask slot (length old)
  its = fits setup mask slot p old ground grid lays e l

  module _ (n : ℕ) (hn : n < grid_points setup) where
    bare_stays : (w : Content) → content_at setup mask slot n ≡ w → ((s : ℕ) (points : List Float) (old : Point) → relaid s points old w ≡ old) → point_at grid n ≡ bare p w
    bare_stays w c h = as_the_ground setup mask slot p old ground grid lays e l n hn w c (no_point w h lays)

    in_the_end : (w : Content) → content_at setup mask slot n ≡ w → point_at grid n ≡ held setup mask p points w
    unfolding held bare relaid own_points
    in_the_end guard c = bare_stays guard c (λ s x o. refl)
    in_the_end dc c = bare_stays dc c (λ s x o. refl)
    in_the_end pilot c = bare_stays pilot c (λ s x o. refl)
    in_the_end (point a s i) c =
        let q = point-stands setup its.lit.valid slot its.slot_lt n hn mask a s i c in
        last_counts n hn a s i c (every s q.subchannel_lt q.subchannel_lit) l ∙ point_floats 48 _ i q.index_lt

  is_filled : grid ≡ filled setup mask slot p points
  unfolding filled
  is_filled =
      by_points grid (grid_points setup) _ (lays_long (ground_long setup mask slot p old ground e) l ∙ omega arith)
      (λ n hn. in_the_end n hn (content_at setup mask slot n) refl)

  both_moves : length points ≡ lit_points_length setup.mode setup.size mask → FilledGrid setup mask slot p points grid
  both_moves long =
      let m = its.lit in
      filled_grid setup mask m slot its.slot_lt p points grid (long ∙ sym (lengths_listed m).0) is_filled

-- ---- empty by carrier

-- a lit subchannel's point, by where it is placed
module _ (setup : Setup) (mask slot carriers : ℕ) (grid points next : List Float) (e : Leaves (empty_first_of setup mask slot carriers grid points) next)
    (s index symbol column : ℕ) (lit : is_lit setup mask s ≡ true) (q : PlacedIn setup slot s index symbol column) where
  -- its number among the points, and where it stands
  abbrev number : ℕ
  number = point_number (lit_rank setup mask s) index

  abbrev stood : ℕ
  stood = there setup symbol column

  first_writes : point_at next number ≡ pick (ltb stood carriers) (point_at grid stood) (point_at points number)
  first_writes =
      let law = mask_law.ranks setup mask (subchannels setup) in
      let w = placing setup slot s index q in
      let s_lt = w.subchannel_lt in
      let i = w.index_lt in
      let r = law.rank_lt s s_lt lit in
      let rank : number / 48 ≡ lit_rank setup mask s = omega arith in
      let its : number % 48 ≡ index = omega arith in
      let at : stands_at setup slot (of_lit_rank setup mask (number / 48)) (number % 48) ≡ stood =
      rw (rank, its, law.back s s_lt lit) (sym (placed_there setup slot s index symbol column q)) in
      left_at setup mask slot grid points carriers next e number (omega arith) ∙ rw at

-- ---- where all is lit

-- the filled grid, in document 01's own words
held-all : (setup : Setup) (p : Point) (points : List Float) (w : Content) → held setup (all_lit setup.mode) p points w ≡ held_all p points w
unfolding held held_all
held-all setup p points guard = refl
held-all setup p points dc = refl
held-all setup p points pilot = refl
held-all setup p points (point slot s index) = rw (mask_law.all_ranks setup s)

all_filled : (setup : Setup) (slot : ℕ) (p : Point) (points : List Float) → filled setup (all_lit setup.mode) slot p points ≡ filled_all setup slot p points
unfolding filled filled_all
all_filled setup slot p points = λ i. floats_of (grid_points setup) (λ n. at (slot * symbols setup + row_of setup n) (column_of setup n) i)
  where
    at : (y column : ℕ) → held setup (all_lit setup.mode) p points (lit_content setup (all_lit setup.mode) y column) ≡ held_all p points (content_of setup y column)
    at y column = rw (mask_law.all_content setup y column) (held-all setup p points (content_of setup y column))

-- ---- what is accepted

-- a setup and a mask that pass, and a grid of the length that is told, which passes the last question
passed : {setup : Setup} {mask : ℕ} → Passes setup → is_mask setup.mode mask ≡ true → MaskAccepted setup mask
passed {setup} e k = record { valid = passed-valid setup e; mask_is = k }

told_long : {setup : Setup} {mask : ℕ} → MaskAccepted setup mask → (grid : ℕ) → grid ≡ grid_length setup.mode setup.size → grid ≡ 2 * grid_points setup
told_long m grid g = g ∙ sym (lengths_listed m).1

told : {setup : Setup} {mask slot : ℕ} → MaskAccepted setup mask → slot < 512 → (grid : ℕ) → grid ≡ grid_length setup.mode setup.size → GroundAccepted setup mask slot grid
told m h grid g = record { lit = m; slot_lt = h; grid_long = told_long m grid g }

pub grid-law : GridLaw
unfolding ground_of lay_of empty_of sight
grid-law =
    record {
      two_moves = λ setup mask slot p points old ground grid lays e l long every. both_moves setup mask slot p points old ground grid lays e l every long;
      laid_is_seen = own_seen;
      lay_touches_its_own = touches_its_own;
      others_stay = other_stands;
      laid_in_part = laid_grid;
      ground_mod_3 = ground_mod_3;
      ground_always = ground_always;
      ground_every_cell = λ mode size cell other slot pilots p old a b. every_cell mode size cell other slot pilots p old (passed-valid _ a) (passed-valid _ b);
      unlit_meets_5 = λ setup mask slot s points grid e k h l dark.
          sym (refused_leaves _ _ _ (lay_numbered setup mask slot s (length points) (length grid) _) grid 5
          (lay_unlit setup mask slot s (length points) (length grid) (passed e k) h l dark) (λ z. omega arith));
      unlit_is_nothing = λ setup mask symbol used grid e k hy h dark g.
          let m = passed e k in
          (dark_on_grid m (symbol / symbols setup) ((div-lt_iff_lt-mul (few m.valid.ranged).symbols_pos).1 hy) symbol used refl h dark).looked grid (told_long m (length grid) g) _ refl;
      first_writes = first_writes;
      first_of_all = λ setup mask slot carriers grid points. of_all setup mask slot grid points carriers;
      first_then_more = λ setup mask slot fewer more earlier grid points e. then_more setup mask slot earlier grid points e fewer more;
      first_of_none = of_none;
      first_refused_alike = λ setup mask slot carriers grid points. refused_alike setup mask slot grid points carriers;
      ground_keeps_length = λ setup mask slot p old ground e. ground_long setup mask slot p old ground e ∙ sym (ground_fits setup mask slot p old ground e).grid_long;
      lay_keeps_length = λ setup mask slot s points grid next e. lay_long setup mask slot s points grid next e ∙ sym (lay_fits setup mask slot s points grid next e).fits.grid_long;
      ground_accepts = λ setup mask slot p old e k h g.
          accepted_number _ _ _ (ground_numbered setup mask slot (length old) _) _
          (sym (ground_0 setup mask slot (length old) (told (passed e k) h (length old) g)));
      lay_accepts = λ setup mask slot s points grid e k h hs lit q g.
          accepted_number _ _ _ (lay_numbered setup mask slot s (length points) (length grid) _) _
          (sym (lay_0 setup mask slot s (length points) (length grid) (record { fits = told (passed e k) h (length grid) g; subchannel_lt = hs; subchannel_lit = lit; points_long = q })));
      empty_accepts = λ setup mask slot grid old e k h l g.
          let m = passed e k in
          accepted_number _ _ _ (empty_numbered setup mask slot (length old) (length grid) _) _
          (sym (empty_0 setup mask slot (length old) (length grid) (record { fits = told m h (length grid) g; points_long = l ∙ sym (lengths_listed m).0 })));
      all_lit_filled = all_filled;
      all_lit_length = all_lit_length;
    }
