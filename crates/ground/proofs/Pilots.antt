-- The ground: the pass over the pilots of a cleared grid puts on every pilot's place what the ground has there.
use Rattle.base.proofs.Prelude.{◌≡◌, refl, sym, ap, ◌∙◌, subst, true, List, [], ◌∷◌, ℕ, ◌+◌, ◌-◌, ◌*◌, ◌/◌, ◌%◌, ◌<◌, ◌≤◌, mod-lt, div-add-mod'}
use Rattle.base.proofs.Prelude.{arith, digits_lt, eqb, ltb, length, get_or, replicate, length-replicate, eqb-true, eqb-false, ltb-true, ltb-false}
use Rattle.base.proofs.Prelude.{lt-ltb}
use Rattle.base.proofs.Test.{cases}
use mathlib.Core.Logic.{◌⊎◌, inl, inr, ⊎_elim}
use native.Mathlib.Nat.{mul-le-mul_right}
use lib.Ieee.{Float}
use Rattle.carriers.specs.Band.{used_of}
use Rattle.carriers.proofs.Guards.{used-carrier}
use Rattle.modes.specs.{Setup.Setup, Mode.{symbols, band}, Model.{Unlent, Valid}}
use Rattle.map.specs.Place.{Content, guard, dc, pilot, point}
use Rattle.formulas.specs.Formula.{is_pilot}
use Rattle.modes.proofs.Whole.{band_law}
use Rattle.map.proofs.Law.{pilot_content, pilot-at}
use Rattle.mask.specs.Mask.{is_used_lit, lit_content}
use Rattle.points.specs.{declared.Point.Point, Points.{zero32, zero_point, point_at}, Model.put_point}
use Rattle.points.proofs.Points.{by_points, point_cleared, length_put, put_same, put_other}
use Rattle.runs.specs.{declared.Runs.Runs, Model.{run_step, run_count, runs_of, LitRuns, run_lit}}
use Rattle.runs.proofs.Law.{RunLaw, run_law, run_light, first-pilot, second-pilot, pilot_place}
use Rattle.lengths.specs.Length.{grid_points}
use Rattle.grid.specs.Row.{used_position, row_of, column_of}
use Rattle.grid.proofs.Slot.{lit_at, holds_at, used_row, used_column, used_position_lt, row_lt, at_place}
use Rattle.ground.specs.{Ground.{bare, grounded}, Model.{last_pilot, ground_at, PilotsBelow}}

-- a run's place is a used number
pub run_used : {setup : Setup} → Unlent setup → (i place : ℕ) → i < run_count setup → place < run_step setup → i * run_step setup + place < (band setup).used
run_used its i place hi hp = rw (← (run_law its 0).used_is) (digits_lt hi hp)

-- a run is lit or not
pub lit_two : {setup : Setup} → Unlent setup → (mask : ℕ) (lit : List ℕ) → LitRuns setup mask lit → (i : ℕ) → i < run_count setup → (r : ℕ) → r ≡ run_lit setup lit i → r < 2
lit_two {setup} its mask lit runs i h r e =
    rw (e ∙ run_light its mask lit runs i h) (cases (is_used_lit setup mask (i * run_step setup)) (λ t. rw t (omega arith)) (λ t. rw t (omega arith)))

-- what holds before each turn of the pass over a slot's rows: the pilots of the rows before are as the ground has them, and all that holds no pilot
pub record GroundTurn (setup : Setup) (mask slot : ℕ) (p : Point) (grid : List Float) (row : ℕ) : Type 0 where
  pub within : row ≤ symbols setup
  pub long : length grid ≡ 2 * grid_points setup
  pub others : (n : ℕ) → (holds_at setup slot n ≡ pilot → ⊥) → n < grid_points setup → point_at grid n ≡ ground_at setup mask slot p n
  pub put : (o used : ℕ) → o < row → used < (band setup).used → is_pilot setup (slot * symbols setup + o) used ≡ true
      → point_at grid (used_position setup o used) ≡ ground_at setup mask slot p (used_position setup o used)

module _ (setup : Setup) (v : Valid setup) (mask slot : ℕ) (p : Point) where
  abbrev at : ℕ → Point
  at = ground_at setup mask slot p

  -- a place that holds no pilot is clear
  clear_at : (n : ℕ) (w : Content) → holds_at setup slot n ≡ w → (holds_at setup slot n ≡ pilot → ⊥) → zero_point ≡ at n
  unfolding lit_content bare
  clear_at n w c ne = sym (cases (lit_at setup mask n) (λ t. rw (t, c) (clear w c)) (λ t. rw t))
    where
      clear : (w : Content) → holds_at setup slot n ≡ w → bare p w ≡ zero_point
      clear guard c = refl
      clear dc c = refl
      clear pilot c = absurd (ne c)
      clear (point a s m) c = refl

  -- ---- the pilots of a row

  module _ (its : Unlent setup) (lit : List ℕ) (runs : LitRuns setup mask lit) (row : ℕ) (hr : row < symbols setup) where
    abbrev y : ℕ
    y = slot * symbols setup + row

    abbrev step : ℕ
    step = run_step setup

    law : RunLaw setup y
    law = run_law its y

    -- what is put on a pilot's place: the point of its run, out of 0.0 and the pilot point
    module _ (i place : ℕ) (hi : i < run_count setup) (hp : place < step) (is : is_pilot setup y (i * step + place) ≡ true) (r : ℕ) (e : r ≡ run_lit setup lit i) (d : Point) where
      abbrev used : ℕ
      used = i * step + place

      used_lt : used < (band setup).used
      used_lt = run_used its i place hi hp

      place_lit : lit_at setup mask (used_position setup row used) ≡ is_used_lit setup mask (i * step)
      place_lit =
          ap (λ (k : ℕ). is_used_lit setup mask (used_of (band setup) k)) (used_column setup v.ranged row used used_lt)
          ∙ ap (is_used_lit setup mask) (used-carrier (band setup) setup.size (band_law v.ranged) used used_lt)
          ∙ law.lit mask i place hp

      place_pilot : holds_at setup slot (used_position setup row used) ≡ pilot
      place_pilot = rw (used_row setup v.ranged row used used_lt, used_column setup v.ranged row used used_lt) (pilot_content setup v y used used_lt is)

      place_own : get_or (zero_point ∷ p ∷ []) r d ≡ at (used_position setup row used)
      unfolding bare lit_content
      place_own =
          let q = e ∙ run_light its mask lit runs i hi in
          cases (is_used_lit setup mask (i * step))
          (λ t. rw (q, t, place_lit ∙ t, place_pilot))
          (λ t. rw (q, t, place_lit ∙ t))

    -- one put on a pilot's place: what is as the ground has it stays, and that place is
    module _ (grid : List Float) (long : length grid ≡ 2 * grid_points setup) (i place : ℕ) (hi : i < run_count setup) (hp : place < step) (is : is_pilot setup y (i * step + place) ≡ true)
        (r : ℕ) (e : r ≡ run_lit setup lit i) (d : Point) (grid' : List Float) (q : grid' ≡ put_point grid (used_position setup row (i * step + place)) (get_or (zero_point ∷ p ∷ []) r d)) where
      abbrev x : ℕ
      x = used_position setup row (i * step + place)

      put_long : length grid' ≡ length grid
      put_long = ap length q ∙ length_put grid x _

      put_here : point_at grid' x ≡ at x
      put_here =
          ap (λ (g : List Float). point_at g x) q
          ∙ put_same grid x _ (omega (arith, long, used_position_lt setup v.ranged row (i * step + place) (run_used its i place hi hp) hr)) ∙ place_own i place hi hp is r e d

      put_keeps : (n : ℕ) → point_at grid n ≡ at n → point_at grid' n ≡ at n
      put_keeps n z =
          cases (eqb n x)
          (λ b. let w = eqb-true n x b in rw w put_here)
          (λ b. ap (λ (g : List Float). point_at g n) q ∙ put_other grid x _ n (eqb-false n x b) ∙ z)

    -- the pilots of a run that has some
    module _ (shape : Runs) (es : shape ≡ runs_of setup y) (some : shape.first < shape.step) where
      first_in : shape.first < step
      first_in = subst (λ (b : Runs). shape.first < b.step) es some

      first_is : (i : ℕ) → is_pilot setup y (i * step + shape.first) ≡ true
      first_is i = rw es (first-pilot law i (rw es at first_in))

      pub last_in : last_pilot shape < shape.step
      unfolding last_pilot
      last_in = cases (ltb shape.second shape.step) (λ b. rw b (ltb-true shape.second shape.step b)) (λ b. rw b some)

      last_is : (i : ℕ) → is_pilot setup y (i * step + last_pilot shape) ≡ true
      unfolding last_pilot
      last_is i =
          cases (ltb shape.second shape.step)
          (λ b. rw b (rw es (second-pilot law i (subst (λ (z : Runs). z.second < z.step) es (ltb-true shape.second shape.step b)))))
          (λ b. rw b (first_is i))

      no_other : (i place : ℕ) → place < step → is_pilot setup y (i * step + place) ≡ true → (place ≡ shape.first) ⊎ (place ≡ last_pilot shape)
      unfolding last_pilot
      no_other i place hp is =
          ⊎_elim (λ z. inl (rw es z))
          (λ z. inr (rw (lt-ltb shape.second shape.step (rw es (rw (← z) hp))) (rw es z)))
          (pilot_place law i place hp is)

      -- a run: both its pilots
      module _ {grid₀ grid : List Float} (long₀ : length grid₀ ≡ 2 * grid_points setup) (i : ℕ) (t : PilotsBelow setup mask slot p row (i * step) grid₀ grid) (hi : i < run_count setup)
          (r : ℕ) (e : r ≡ run_lit setup lit i) (d : Point) (grid₁ : List Float) (q₁ : grid₁ ≡ put_point grid (used_position setup row (i * step + shape.first)) (get_or (zero_point ∷ p ∷ []) r d)) where
        long : length grid ≡ 2 * grid_points setup
        long = t.long ∙ long₀

        pub long_1 : length grid₁ ≡ 2 * grid_points setup
        long_1 = put_long grid long i shape.first hi first_in (first_is i) r e d grid₁ q₁ ∙ long

        keeps_1 : (n : ℕ) → point_at grid n ≡ at n → point_at grid₁ n ≡ at n
        keeps_1 = put_keeps grid long i shape.first hi first_in (first_is i) r e d grid₁ q₁

        -- its only one
        pub run_next_1 : last_pilot shape ≡ shape.first → PilotsBelow setup mask slot p row ((i + 1) * step) grid₀ grid₁
        run_next_1 same =
            record {
              long = long_1 ∙ sym long₀;
              kept = λ n z. keeps_1 n (t.kept n z);
              put = λ used h is.
                  cases (ltb used (i * step))
                  (λ l. keeps_1 (used_position setup row used) (t.put used (ltb-true used (i * step) l) is))
                  (λ l. let le = ltb-false used (i * step) l in
                  let place = used - i * step in
                  let here : i * step + place ≡ used = omega arith in
                  let hp : place < step = omega arith in
                  let z : place ≡ shape.first = ⊎_elim (λ z. z) (λ z. z ∙ same) (no_other i place hp (rw here is)) in
                  subst (λ (u : ℕ). point_at grid₁ (used_position setup row u) ≡ at (used_position setup row u)) here
                  (rw z (put_here grid long i shape.first hi first_in (first_is i) r e d grid₁ q₁)));
            }

        module _ (last : ℕ) (el : last ≡ last_pilot shape) (grid₂ : List Float) (q₂ : grid₂ ≡ put_point grid₁ (used_position setup row (i * step + last)) (get_or (zero_point ∷ p ∷ []) r d)) where
          last_lt : last < step
          last_lt = rw el (subst (λ (b : Runs). last_pilot shape < b.step) es last_in)

          last_on : is_pilot setup y (i * step + last) ≡ true
          last_on = rw el (last_is i)

          keeps_2 : (n : ℕ) → point_at grid₁ n ≡ at n → point_at grid₂ n ≡ at n
          keeps_2 = put_keeps grid₁ long_1 i last hi last_lt last_on r e d grid₂ q₂

          keeps : (n : ℕ) → point_at grid n ≡ at n → point_at grid₂ n ≡ at n
          keeps n z = keeps_2 n (keeps_1 n z)

          pub run_next : PilotsBelow setup mask slot p row ((i + 1) * step) grid₀ grid₂
          run_next =
              record {
                long = put_long grid₁ long_1 i last hi last_lt last_on r e d grid₂ q₂ ∙ long_1 ∙ sym long₀;
                kept = λ n z. keeps n (t.kept n z);
                put = λ used h is.
                    cases (ltb used (i * step))
                    (λ l. keeps (used_position setup row used) (t.put used (ltb-true used (i * step) l) is))
                    (λ l. let le = ltb-false used (i * step) l in
                    let place = used - i * step in
                    let here : i * step + place ≡ used = omega arith in
                    let hp : place < step = omega arith in
                    subst (λ (u : ℕ). point_at grid₂ (used_position setup row u) ≡ at (used_position setup row u)) here
                    (⊎_elim
                    (λ z. rw z (keeps_2 _ (put_here grid long i shape.first hi first_in (first_is i) r e d grid₁ q₁)))
                    (λ z. let w : place ≡ last = z ∙ sym el in rw w (put_here grid₁ long_1 i last hi last_lt last_on r e d grid₂ q₂))
                    (no_other i place hp (rw here is))));
              }

    -- a row whose runs have none
    pub none_row : (shape : Runs) → shape ≡ runs_of setup y → shape.step ≤ shape.first → (grid : List Float) → PilotsBelow setup mask slot p row (band setup).used grid grid
    none_row shape es past grid =
        record {
          long = refl;
          kept = λ n z. z;
          put = λ used h is.
              let hp = mod-lt used law.step_pos in
              let l : step ≤ (runs_of setup y).first = subst (λ (b : Runs). b.step ≤ b.first) es past in
              absurd (⊎_elim (λ z. omega arith) (λ z. omega (arith, law.apart)) (pilot_place law (used / step) (used % step) hp (rw (div-add-mod' used step) is)));
        }

  -- before the first run, and after the last
  pub row_start : (row : ℕ) (grid : List Float) → PilotsBelow setup mask slot p row (0 * run_step setup) grid grid
  row_start row grid = record { long = refl; kept = λ n z. z; put = λ used h. absurd (omega arith) }

  pub row_done : Unlent setup → (row : ℕ) {grid₀ grid : List Float} {i : ℕ} → PilotsBelow setup mask slot p row (i * run_step setup) grid₀ grid → run_count setup ≤ i
      → PilotsBelow setup mask slot p row (band setup).used grid₀ grid
  row_done its row t h =
      let l = mul-le-mul_right (run_step setup) h in
      record { long = t.long; kept = t.kept; put = λ used hu is. t.put used (omega (arith, (run_law its 0).used_is)) is }

  -- ---- row after row

  pub ground_start : (floats : ℕ) → floats ≡ 2 * grid_points setup → (grid : List Float) → grid ≡ replicate floats zero32 → GroundTurn setup mask slot p grid 0
  ground_start floats l grid q =
      record {
        within = omega arith;
        long = ap length q ∙ length-replicate floats zero32 ∙ l;
        others = λ n ne hn. ap (λ (g : List Float). point_at g n) q ∙ point_cleared floats n (omega arith) ∙ clear_at n (holds_at setup slot n) refl ne;
        put = λ o used h. absurd (omega arith);
      }

  module _ {grid : List Float} {row : ℕ} (t : GroundTurn setup mask slot p grid row) where
    pub ground_next : row < symbols setup → (grid' : List Float) → PilotsBelow setup mask slot p row (band setup).used grid grid' → GroundTurn setup mask slot p grid' (row + 1)
    ground_next hr grid' r =
        record {
          within = omega arith;
          long = r.long ∙ t.long;
          others = λ n ne hn. r.kept n (t.others n ne hn);
          put = λ o used h hu is.
              cases (eqb o row)
              (λ b. let z = eqb-true o row b in rw z (r.put used hu (rw z at is)))
              (λ b. let ne = eqb-false o row b in r.kept (used_position setup o used) (t.put o used (omega arith) hu is));
        }

    pub ground_done : slot < 512 → symbols setup ≤ row → grid ≡ grounded setup mask slot p
    unfolding grounded used_position
    ground_done hs h =
        by_points grid (grid_points setup) _ (t.long ∙ omega arith) (λ n hn. told n hn (holds_at setup slot n) refl)
      where
        told : (n : ℕ) → n < grid_points setup → (w : Content) → holds_at setup slot n ≡ w → point_at grid n ≡ at n
        told n hn guard c = t.others n (λ z. let o : ◌≡◌ {A = ℕ} 0 1 = cc in omega arith) hn
        told n hn dc c = t.others n (λ z. let o : ◌≡◌ {A = ℕ} 0 1 = cc in omega arith) hn
        told n hn (point a s m) c = t.others n (λ z. let o : ◌≡◌ {A = ℕ} 0 1 = cc in omega arith) hn
        told n hn pilot c =
            let a = pilot-at setup v (slot * symbols setup + row_of setup n) (column_of setup n) c in
            let l = row_lt setup v slot hs n hn in
            subst (λ (x : ℕ). point_at grid x ≡ at x) (rw a.carrier_is (at_place setup v slot hs n hn))
            (t.put (row_of setup n) (used_of (band setup) (column_of setup n)) (omega arith) a.used_below a.is-pilot)
