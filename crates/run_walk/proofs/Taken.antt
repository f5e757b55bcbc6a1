-- The walk of empty by carrier: over the runs of a row one after another, each point dropped at its number.
use Rattle.base.proofs.Prelude.{◌≡◌, refl, sym, ap, ap₂, ◌∙◌, true, false, List, ℕ, ◌+◌, ◌-◌, ◌*◌, ◌/◌, ◌%◌, ◌<◌, ◌≤◌, arith, digits_lt, digits_div}
use Rattle.base.proofs.Prelude.{ltb, length, ltb-true, ltb-false}
use Rattle.base.proofs.{Test.{cases, true_false}, LeaveOut.{skip_below, skip_above, skip_le, unskip_skip, before_skip}}
use native.Mathlib.Nat.{mul-le-mul_right}
use lib.Ieee.{Float}
use Rattle.base.specs.Steps.{skip}
use Rattle.carriers.specs.{declared.Spot.Spot, declared.Address.Address, Band.carrier_of, Law.{DataSpot, PointOf}}
use Rattle.carriers.proofs.Guards.{carrier_lt}
use Rattle.modes.specs.{Setup.Setup, Mode.{subchannels, symbols, band}, Model.{Unlent, Valid}}
use Rattle.formulas.specs.Formula.{is_pilot, spot_of, address_of}
use Rattle.formulas.proofs.Slot.{slot_law}
use Rattle.modes.proofs.Whole.{band_law}
use Rattle.mask.specs.Mask.{is_lit, is_used_lit, lit_subchannels, lit_rank, of_lit_rank}
use Rattle.mask.proofs.Law.{mask_law, point_lit}
use Rattle.points.specs.{declared.Point.Point, Points.point_at, Model.puts}
use Rattle.points.proofs.Points.{length_puts, puts_miss, puts_hit}
use Rattle.runs.specs.{declared.Runs.Runs, Model.{run_step, run_count, runs_of, run_place, points_below, run_points, points_within}}
use Rattle.point_numbers.specs.Model.{number_at, run_number}
use Rattle.runs.proofs.Law.{RunLaw, run_law, no_pilot, back, place_below, below_place, within_place, place_within}
use Rattle.lengths.specs.Length.{grid_points}
use Rattle.grid.specs.{Row.{column_position, used_position}, Grid.stands_at}
use Rattle.grid.proofs.Slot.{stands_lt}
use Rattle.run_walk.specs.Model.{point_stands, Took, run_start}

-- ---- from one place of the grid to another

module _ {setup : Setup} {mask slot carriers : ℕ} {grid : List Float} where
  pub took_then : {from mid to : ℕ} {before between after : List Float} → Took setup mask slot carriers grid from mid before between → Took setup mask slot carriers grid mid to between after
      → Took setup mask slot carriers grid from to before after
  took_then a b = record { long = b.long ∙ a.long; on = λ old t. b.on old (a.on old t) }

  -- where no point stands between the two, or none that counts
  pub took_none : (from to : ℕ) (points : List Float) → from ≤ to → ((n : ℕ) → n < 48 * lit_subchannels setup mask → from ≤ point_stands setup mask slot n → point_stands setup mask slot n < to → point_stands setup mask slot n < carriers → ⊥)
      → Took setup mask slot carriers grid from to points points
  took_none from to points h none =
      record {
        long = refl;
        on = λ old t.
            record {
              taken = λ n hn low count.
                  cases (ltb (point_stands setup mask slot n) from)
                  (λ b. t.taken n hn (ltb-true _ from b) count)
                  (λ b. absurd (none n hn (ltb-false _ from b) low count));
              later = λ n hn l. t.later n hn (omega arith);
              past = t.past;
            };
      }

  pub took_past : (from to : ℕ) (points : List Float) → from ≤ to → carriers ≤ from → Took setup mask slot carriers grid from to points points
  took_past from to points h past = took_none from to points h (λ n hn l low count. omega arith)

module _ (setup : Setup) (v : Valid setup) (mask slot : ℕ) where
  abbrev lit : ℕ
  lit = lit_subchannels setup mask

  abbrev spot : ℕ → Spot
  spot n = spot_of setup slot (of_lit_rank setup mask (n / 48)) (n % 48)

  abbrev at : ℕ → ℕ
  at n = point_stands setup mask slot n

  -- ---- points and their numbers

  -- point n of the lit subchannels' points
  module _ (n : ℕ) (h : n < 48 * lit) where
    abbrev s : ℕ
    s = of_lit_rank setup mask (n / 48)

    rank_below : n / 48 < lit
    rank_below = omega arith

    s_lt : s < subchannels setup
    s_lt = (mask_law.ranks setup mask (subchannels setup)).unrank_lt (n / 48) rank_below

    s_lit : is_lit setup mask s ≡ true
    s_lit = (mask_law.ranks setup mask (subchannels setup)).unrank_passes (n / 48) rank_below

    lies : DataSpot (symbols setup) (band setup).used (λ o u. is_pilot setup (slot * symbols setup + o) u) (spot n)
    lies = (slot_law v slot).lies s (n % 48) s_lt (omega arith)

    spot_lit : is_used_lit setup mask (spot n).used ≡ true
    spot_lit = point_lit v.ranged mask slot s (n % 48) s_lt (omega arith) ∙ s_lit

    number_back : number_at setup mask (slot * symbols setup + (spot n).offset) (spot n).used ≡ n
    unfolding number_at
    number_back =
        ap (λ (a : Address). lit_rank setup mask a.subchannel * 48 + a.index) ((slot_law v slot).back s (n % 48) s_lt (omega arith))
        ∙ omega (arith, (mask_law.ranks setup mask (subchannels setup)).forth (n / 48) rank_below)

    pub at_lt : at n < grid_points setup
    at_lt = stands_lt setup v slot s (n % 48) s_lt (omega arith)

  -- the point on a used number that is lit and no pilot
  module _ (row used : ℕ) (hr : row < symbols setup) (hu : used < (band setup).used) (np : is_pilot setup (slot * symbols setup + row) used ≡ false) (l : is_used_lit setup mask used ≡ true) where
    abbrev a : Address
    a = address_of setup (slot * symbols setup + row) used

    a_of : PointOf (subchannels setup) a
    a_of = (slot_law v slot).names row used hr hu np

    a_spot : spot_of setup slot a.subchannel a.index ≡ record { offset = row; used = used }
    a_spot = (slot_law v slot).forth row used hr hu np

    a_lit : is_lit setup mask a.subchannel ≡ true
    a_lit = sym (point_lit v.ranged mask slot a.subchannel a.index a_of.subchannel_lt a_of.index_lt) ∙ ap (λ (x : Spot). is_used_lit setup mask x.used) a_spot ∙ l

    abbrev n : ℕ
    n = number_at setup mask (slot * symbols setup + row) used

    number_lt : n < 48 * lit
    unfolding number_at
    number_lt = omega (arith, (mask_law.ranks setup mask (subchannels setup)).rank_lt a.subchannel a_of.subchannel_lt a_lit, a_of.index_lt)

    number_spot : spot n ≡ record { offset = row; used = used }
    unfolding number_at
    number_spot =
        let i = a_of.index_lt in
        let r : n / 48 ≡ lit_rank setup mask a.subchannel = omega arith in
        let m : n % 48 ≡ a.index = omega arith in
        rw (r, m, (mask_law.ranks setup mask (subchannels setup)).back a.subchannel a_of.subchannel_lt a_lit) a_spot

  -- ---- the places of a row

  abbrev step : ℕ
  step = run_step setup

  abbrev count : ℕ
  count = run_count setup

  -- they rise with the used numbers, to the row's end
  module _ (row : ℕ) where
    rises : (x z : ℕ) → x < z → used_position setup row x < used_position setup row z
    unfolding used_position column_position carrier_of
    rises x z l = let half = (band setup).half in omega (arith, before_skip half x (skip half z) (rw (unskip_skip half z) l))

    pub row_from : (u : ℕ) → row * setup.size ≤ used_position setup row u
    unfolding used_position column_position
    row_from u = omega arith

    row_to : (u : ℕ) → u ≤ (band setup).used → used_position setup row u ≤ (row + 1) * setup.size
    unfolding used_position column_position carrier_of
    row_to u l = omega (arith, (band_law v.ranged).size_is, skip_le (band setup).half u)

    -- a point that stands among them is on the row
    module _ (n : ℕ) (h : n < 48 * lit) (low : row * setup.size ≤ at n) (high : at n < (row + 1) * setup.size) where
      same_row : (spot n).offset ≡ row
      unfolding stands_at used_position column_position
      same_row =
          let rest = at n - row * setup.size in
          let here : row * setup.size + rest ≡ at n = omega arith in
          sym (digits_div (spot n).offset (carrier_lt (band setup) setup.size (band_law v.ranged) (spot n).used (lies n h).used_lt))
          ∙ ap (λ (x : ℕ). x / setup.size) (sym here) ∙ digits_div row (omega arith)

      stands_here : at n ≡ used_position setup row (spot n).used
      unfolding stands_at
      stands_here = ap (λ (o : ℕ). used_position setup o (spot n).used) same_row

      before_used : (z : ℕ) → at n < used_position setup row z → (spot n).used < z
      before_used z l =
          cases (ltb (spot n).used z) (λ b. ltb-true (spot n).used z b)
          (λ b. let le = ltb-false (spot n).used z b in
          absurd (cases (ltb z (spot n).used)
          (λ c. omega (arith, rises z (spot n).used (ltb-true z (spot n).used c), stands_here))
          (λ c. let e : (spot n).used ≡ z = omega (arith, ltb-false z (spot n).used c) in omega (arith, stands_here, ap (used_position setup row) e))))

    -- before its first run, and after its last
    module _ (carriers : ℕ) (grid points : List Float) where
      pub row_start : Took setup mask slot carriers grid (row * setup.size) (run_start setup row 0) points points
      row_start =
          took_none (row * setup.size) (run_start setup row 0) points (row_from (0 * step))
          (λ n h l low c. let u = before_used n h l (omega (arith, row_to (0 * step) (omega arith))) (0 * step) low in omega arith)

      pub row_done : Unlent setup → (i : ℕ) → i ≤ count → count ≤ i → Took setup mask slot carriers grid (run_start setup row i) ((row + 1) * setup.size) points points
      row_done its i most least =
          let all : i * step ≡ (band setup).used = ap (λ (x : ℕ). x * step) (omega arith) ∙ (run_law its 0).used_is in
          took_none (run_start setup row i) ((row + 1) * setup.size) points (row_to (i * step) (omega arith))
          (λ n h l high c. let e = stands_here n h (omega (arith, row_from (i * step))) high in
          omega (arith, rises (spot n).used (i * step) (omega (arith, (lies n h).used_lt))))

      -- nothing counts from a run on that starts past the count
      pub row_over : Unlent setup → (i : ℕ) → i < count → carriers ≤ run_start setup row i → Took setup mask slot carriers grid (run_start setup row i) ((row + 1) * setup.size) points points
      row_over its i h past =
          let l = mul-le-mul_right step h in
          took_past (run_start setup row i) ((row + 1) * setup.size) points (row_to (i * step) (omega (arith, (run_law its 0).used_is))) past

  -- ---- run i of a row

  module _ (its : Unlent setup) (row i : ℕ) (hr : row < symbols setup) (hi : i < count) where
    abbrev y : ℕ
    y = slot * symbols setup + row

    abbrev b : Runs
    b = runs_of setup y

    abbrev start : ℕ
    start = run_start setup row i

    abbrev next : ℕ
    next = run_start setup row (i + 1)

    law : RunLaw setup y
    law = run_law its y

    next_is : (i + 1) * step ≡ i * step + step
    next_is = omega arith

    pub run_used : (p : ℕ) → p < step → i * step + p < (band setup).used
    run_used p h = rw (← law.used_is) (digits_lt hi h)

    -- its carriers stand side by side, since DC lies between two runs
    run_stands : (p : ℕ) → p < step → used_position setup row (i * step + p) ≡ start + p
    unfolding used_position column_position carrier_of
    run_stands p h =
        let half = law.half_is in
        let d = (band setup).half in
        cases (ltb i law.half_run)
        (λ t. let l = digits_lt (ltb-true i law.half_run t) h in omega (arith, skip_below d (i * step + p) (omega arith), skip_below d (i * step) (omega arith)))
        (λ t. let l = mul-le-mul_right step (ltb-false i law.half_run t) in omega (arith, skip_above d (i * step + p) (omega arith), skip_above d (i * step) (omega arith)))

    run_before : (p : ℕ) → p < step → start + p < next
    run_before p h = omega (arith, run_stands p h, rises row (i * step + p) ((i + 1) * step) (omega (arith, next_is)))

    pub start_before : start ≤ next
    start_before = omega (arith, run_before 0 law.step_pos)

    -- a point that stands on it: its place there, and which of the run's it is
    module _ (n : ℕ) (h : n < 48 * lit) (low : start ≤ at n) (high : at n < next) where
      from_row : row * setup.size ≤ at n
      from_row = omega (arith, row_from row (i * step))

      to_row : at n < (row + 1) * setup.size
      to_row = let all = law.used_is in omega (arith, row_to row ((i + 1) * step) (omega (arith, mul-le-mul_right step hi)))

      abbrev place : ℕ
      place = (spot n).used - i * step

      used_low : i * step ≤ (spot n).used
      used_low =
          cases (ltb (spot n).used (i * step))
          (λ c. absurd (omega (arith, rises row (spot n).used (i * step) (ltb-true (spot n).used (i * step) c), stands_here row n h from_row to_row)))
          (λ c. ltb-false (spot n).used (i * step) c)

      place_lt : place < step
      place_lt = omega (arith, used_low, next_is, before_used row n h from_row to_row ((i + 1) * step) high)

      used_here : i * step + place ≡ (spot n).used
      used_here = omega (arith, used_low)

      place_stands : at n ≡ start + place
      place_stands = stands_here row n h from_row to_row ∙ ap (used_position setup row) (sym used_here) ∙ run_stands place place_lt

      abbrev own : ℕ
      own = points_below b place

      own_place : run_place b own ≡ place
      own_place =
          back law i place place_lt
          (ap₂ (λ (o u : ℕ). is_pilot setup (slot * symbols setup + o) u) (sym (same_row row n h from_row to_row)) used_here ∙ (lies n h).no_pilot)

      own_lt : own < run_points b
      own_lt = below_place b own step (rw own_place place_lt)

      own_number : run_number setup mask y i own ≡ n
      own_number =
          ap (λ (p : ℕ). number_at setup mask y (i * step + p)) own_place
          ∙ ap₂ (λ (o u : ℕ). number_at setup mask (slot * symbols setup + o) u) (sym (same_row row n h from_row to_row)) used_here
          ∙ number_back n h

      own_lit : is_used_lit setup mask (i * step) ≡ true
      own_lit = sym (law.lit mask i place place_lt) ∙ ap (is_used_lit setup mask) used_here ∙ spot_lit n h

    -- a run that is not lit has none
    pub dark_run : is_used_lit setup mask (i * step) ≡ false → (carriers : ℕ) (grid points : List Float) → Took setup mask slot carriers grid start next points points
    dark_run dark carriers grid points = took_none start next points start_before (λ n h low high c. true_false (sym (own_lit n h low high) ∙ dark))

    -- one that is lit: its points have their numbers and stand on it
    module _ (is-lit : is_used_lit setup mask (i * step) ≡ true) where
      module _ (j : ℕ) (hj : j < run_points b) where
        abbrev used : ℕ
        used = i * step + run_place b j

        place_in : run_place b j < step
        place_in = place_below b j step hj

        used_lit : is_used_lit setup mask used ≡ true
        used_lit = law.lit mask i (run_place b j) place_in ∙ is-lit

        pub point_lt : run_number setup mask y i j < 48 * lit
        point_lt = number_lt row used hr (run_used (run_place b j) place_in) (no_pilot law i j hj) used_lit

        point-stands : at (run_number setup mask y i j) ≡ start + run_place b j
        unfolding stands_at
        point-stands =
            ap (λ (x : Spot). used_position setup x.offset x.used) (number_spot row used hr (run_used (run_place b j) place_in) (no_pilot law i j hj) used_lit)
            ∙ run_stands (run_place b j) place_in

        pub stands_below : start + run_place b j < grid_points setup
        stands_below = rw (← point-stands) (at_lt (run_number setup mask y i j) point_lt)

      -- those on the first `carriers` of the grid are dropped
      module _ (carriers : ℕ) (grid points : List Float) (long : length points ≡ 96 * lit) where
        abbrev room : ℕ
        room = carriers - start

        abbrev number : ℕ → ℕ
        number = run_number setup mask y i

        abbrev source : ℕ → Point
        source j = point_at grid (start + run_place b j)

        abbrev after : List Float
        after = puts number source (points_within b room) points

        -- no other point is touched
        missed : (n : ℕ) → (start ≤ at n → at n < next → at n < carriers → ⊥) → point_at after n ≡ point_at points n
        missed n away =
            puts_miss number source (points_within b room) points n
            (λ j l z. let w = within_place b j room l in
            let s = ap at z ∙ point-stands j w.0 in
            away (omega arith) (omega (arith, run_before (run_place b j) (place_in j w.0))) (omega (arith, w.1)))

        hit : (n : ℕ) (h : n < 48 * lit) (low : start ≤ at n) (high : at n < next) → at n < carriers → point_at after n ≡ point_at grid (at n)
        hit n h low high c =
            let j = own n h low high in
            let e = own_number n h low high in
            let p = own_place n h low high in
            let stands = place_stands n h low high in
            ap (point_at after) (sym e)
            ∙ puts_hit number source (points_within b room) points j (place_within b j room (own_lt n h low high) (omega arith))
            (λ x x_lt z. ap (point_at grid) (sym (point-stands x (within_place b x room x_lt).0) ∙ ap at (sym z) ∙ point-stands j (own_lt n h low high)))
            (omega arith)
            ∙ ap (point_at grid) (ap (λ (x : ℕ). start + x) p ∙ sym stands)

        pub lit_run : Took setup mask slot carriers grid start next points after
        lit_run =
            record {
              long = length_puts number source (points_within b room) points;
              on = λ old t.
                  record {
                    taken = λ n h high c.
                        cases (ltb (at n) start)
                        (λ l. let low = ltb-true (at n) start l in missed n (λ x y z. omega arith) ∙ t.taken n h low c)
                        (λ l. hit n h (ltb-false (at n) start l) high c);
                    later = λ n h l. missed n (λ x y z. omega arith) ∙ t.later n h (omega (arith, start_before));
                    past = λ n h l. missed n (λ x y z. omega arith) ∙ t.past n h l;
                  };
            }
