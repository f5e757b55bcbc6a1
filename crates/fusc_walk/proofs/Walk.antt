-- The walk over the data carriers of a symbol of FUSC: each point is dropped at its number, one data number after another.
use Rattle.base.proofs.Prelude.{◌≡◌, sym, ap, ap₂, ◌∙◌, true, List, ℕ, zero, suc, ◌+◌, ◌*◌, ◌/◌, ◌%◌, ◌<◌, ◌≤◌, arith, eqb, ltb, length, eqb-true, eqb-false, ltb-true, ltb-false}
use Rattle.base.proofs.{Test.cases, Rank.rank_all, Tabulate.entry_of}
use Rattle.base.specs.{Steps.entry, Tabulate.tabulate}
use lib.Ieee.{Float}
use Rattle.carriers.specs.Band.{fusc_band, carrier_of}
use Rattle.carriers.proofs.Guards.{fusc-band, carrier_lt, band_law}
use Rattle.pilot_list.specs.{List.used_of_data, Law.LeftLaw}
use Rattle.pilot_list.proofs.Law.{left_law}
use Rattle.fusc.specs.Map.{data_number, data_subchannel, data_index}
use Rattle.fusc.specs.Map as fusc
use Rattle.fusc.proofs.Law.{data_inner}
use Rattle.modes.specs.{Setup.Setup, Mode.{subchannels, symbols_of, band, band_of}, Model.Valid}
use Rattle.modes.proofs.{ByMode.in_fusc, Whole.{band_law as whole}, Lent.list_lent}
use Rattle.formulas.specs.Formula.{spot_of}
use Rattle.mask.specs.Mask.{is_lit, is_lit_of, lit_subchannels, of_lit_rank}
use Rattle.mask.proofs.Law.{mask_law}
use Rattle.points.specs.{declared.Point.Point, Points.point_at, Model.{put_point, puts}}
use Rattle.points.proofs.Points.{length_put, put_same, put_other, length_puts, puts_as}
use Rattle.lengths.specs.Length.{grid_points_of, grid_points}
use Rattle.grid.specs.{Row.{column_position, used_position}, Grid.stands_at}
use Rattle.run_walk.specs.Model.{point_stands, Took}
use Rattle.run_walk.proofs.Taken.{took_then, took_none}
use Rattle.fusc_walk.specs.Model.{ColumnsWithin, Dropped}

-- ---- one point

-- a point that alone stands at a place, taken
module _ (setup : Setup) (mask slot carriers : ℕ) (grid points : List Float) (x k : ℕ) where
  pub took_point : (x < carriers) → k * 2 + 1 < length points → ((n : ℕ) → n < 48 * lit_subchannels setup mask → point_stands setup mask slot n ≡ x → n ≡ k)
      → point_stands setup mask slot k ≡ x → Took setup mask slot carriers grid x (x + 1) points (put_point points k (point_at grid x))
  took_point counts fits only stands =
      record {
        long = length_put points k (point_at grid x);
        on = λ old t.
            record {
              taken = λ n h low c.
                  cases (eqb n k)
                  (λ e. let z = eqb-true n k e in
                  ap (point_at (put_point points k (point_at grid x))) z ∙ put_same points k (point_at grid x) fits ∙ ap (point_at grid) (sym stands ∙ ap (point_stands setup mask slot) (sym z)))
                  (λ e. put_other points k (point_at grid x) n (eqb-false n k e)
                  ∙ t.taken n h (cases (ltb (point_stands setup mask slot n) x) (ltb-true (point_stands setup mask slot n) x) (λ b. absurd (eqb-false n k e (only n h (omega (arith, ltb-false (point_stands setup mask slot n) x b)))))) c);
              later = λ n h l. put_other points k (point_at grid x) n (λ z. omega (arith, stands, ap (point_stands setup mask slot) z)) ∙ t.later n h (omega arith);
              past = λ n h l. put_other points k (point_at grid x) n (λ z. omega (arith, stands, ap (point_stands setup mask slot) z)) ∙ t.past n h l;
            };
      }

-- ---- data numbers, their columns and their points' numbers

module _ {setup : Setup} (v : Valid setup) (q : setup.mode ≡ 7) (mask slot : ℕ) where
  abbrev cell : ℕ
  cell = setup.cell

  abbrev pilots : List ℕ
  pilots = setup.pilots

  left : LeftLaw pilots
  left = left_law pilots (list_lent v q)

  abbrev pub column : ℕ → ℕ
  column d = carrier_of fusc_band (used_of_data pilots d)

  abbrev pub number : ℕ → ℕ
  number d = data_subchannel cell d * 48 + data_index cell d

  band_is : band setup ≡ fusc_band
  unfolding band_of
  band_is = rw q

  -- all 32 subchannels are lit
  is-lit : (s : ℕ) → is_lit setup mask s ≡ true
  unfolding is_lit_of
  is-lit s = rw q

  pub all-lit : lit_subchannels setup mask ≡ 32
  all-lit = rank_all (is_lit setup mask) (subchannels setup) (λ s h. is-lit s) ∙ (in_fusc v.ranged q).subchannels_are

  own_rank : (s : ℕ) → s < 32 → of_lit_rank setup mask s ≡ s
  own_rank s h =
      ap (of_lit_rank setup mask) (sym (rank_all (is_lit setup mask) s (λ t l. is-lit t)))
      ∙ mask_law.of_rank_back setup mask s (rw (in_fusc v.ranged q).subchannels_are h) (is-lit s)

  -- the point of a number, and its data number
  abbrev data_of : ℕ → ℕ
  data_of n = data_number cell (n / 48) (n % 48)

  module _ (n : ℕ) (h : n < 1536) where
    data_lt : data_of n < 1536
    data_lt = (data_inner cell).number_lt (n / 48) (n % 48) (omega arith) (omega arith)

    number_back : number (data_of n) ≡ n
    number_back =
        ap₂ (λ (s m : ℕ). s * 48 + m) ((data_inner cell).subchannel_back (n / 48) (n % 48) (omega arith) (omega arith)) ((data_inner cell).index_back (n / 48) (n % 48) (omega arith) (omega arith))
        ∙ omega arith

    stands-at : point_stands setup mask slot n ≡ column (data_of n)
    unfolding stands_at used_position column_position spot_of fusc.spot_of band_of
    stands-at = rw (own_rank (n / 48) (omega arith), q) (omega arith)

  pub number_lt : (d : ℕ) → number d < 1536
  number_lt d = omega (arith, (data_inner cell).subchannel_lt d, (data_inner cell).index_lt d)

  data_back : (d : ℕ) → d < 1536 → data_of (number d) ≡ d
  data_back d h =
      let i = (data_inner cell).index_lt d in
      ap₂ (data_number cell) (omega arith) (omega arith) ∙ (data_inner cell).forth d h

  pub point-stands : (d : ℕ) → d < 1536 → point_stands setup mask slot (number d) ≡ column d
  point-stands d h = stands-at (number d) (number_lt d) ∙ ap column (data_back d h)

  column_lt : (d : ℕ) → d < 1536 → column d < setup.size
  column_lt d h = rw (← band_is) (carrier_lt (band setup) setup.size (whole v.ranged) (used_of_data pilots d) (rw band_is (left.used_lt d h)))

  grid_is : grid_points setup ≡ setup.size
  unfolding grid_points_of symbols_of
  grid_is = rw q (omega arith)

  -- the columns rise with the data numbers
  rises : (d next : ℕ) → d < next → next < 1536 → column d < column next
  rises d next l h = (band_law fusc_band 2048 fusc-band).rising _ _ (left.rising d next l h)

  before : (d e : ℕ) → d < 1536 → e < 1536 → column d < column e → d < e
  before d e hd he l =
      cases (ltb d e) (ltb-true d e)
      (λ b. absurd (cases (eqb d e)
      (λ z. omega (arith, ap column (eqb-true d e z)))
      (λ z. omega (arith, rises e d (omega (arith, ltb-false d e b, eqb-false d e z)) hd))))

  same : (d e : ℕ) → d < 1536 → e < 1536 → column d ≡ column e → d ≡ e
  same d e hd he z =
      cases (ltb d e)
      (λ b. absurd (omega (arith, rises d e (ltb-true d e b) he)))
      (λ b. cases (ltb e d)
      (λ c. absurd (omega (arith, rises e d (ltb-true e d c) hd)))
      (λ c. omega (arith, ltb-false d e b, ltb-false e d c)))

  only : (d : ℕ) → d < 1536 → (n : ℕ) → n < 48 * lit_subchannels setup mask → point_stands setup mask slot n ≡ column d → n ≡ number d
  only d h n l z =
      let hn : n < 1536 = omega (arith, all-lit) in
      sym (number_back n hn) ∙ ap number (same (data_of n) d (data_lt n hn) h (sym (stands-at n hn) ∙ z))

  -- ---- the walk

  -- the first place of the grid that is not walked when d data numbers are
  unfoldable pub edge : ℕ → ℕ
  edge zero = 0
  edge (suc d) = column d + 1

  past_edge : (d e : ℕ) → e < 1536 → d ≤ 1536 → edge d ≤ column e → d ≤ e
  unfolding edge
  past_edge zero e he hd l = omega arith
  past_edge (suc d) e he hd l = let b = before d e (omega arith) he (omega arith) in omega arith

  edge_le : (d : ℕ) → d < 1536 → edge d ≤ column d
  unfolding edge
  edge_le zero h = omega arith
  edge_le (suc d) h = let b = rises d (suc d) (omega arith) h in omega arith

  edge_most : (d : ℕ) → d ≤ 1536 → edge d ≤ setup.size
  unfolding edge
  edge_most zero h = omega arith
  edge_most (suc d) h = let b = column_lt d (omega arith) in omega arith

  module _ (carriers : ℕ) (grid points₀ : List Float) where
    abbrev pub Turn : List Float → ℕ → Type 0
    Turn points d = (d ≤ 1536) × Took setup mask slot carriers grid 0 (edge d) points₀ points

    walk_start : Turn points₀ 0
    unfolding edge
    walk_start = (omega arith, took_none 0 0 points₀ (omega arith) (λ n h l low c. omega arith))

    walk_next : {points : List Float} (d : ℕ) → Turn points d → d < 1536 → column d < carriers → length points ≡ 3072
        → Turn (put_point points (number d) (point_at grid (column d))) (suc d)
    unfolding edge
    walk_next {points} d t h c long = (
      omega arith,
      took_then t.1
          (took_then
          (took_none (edge d) (column d) points (edge_le d h)
          (λ n hn l low k. let b : n < 1536 = omega (arith, all-lit) in
          let e = stands-at n b in
          let p = past_edge d (data_of n) (data_lt n b) (omega arith) (omega arith) in
          let q = before (data_of n) d (data_lt n b) h (omega arith) in omega arith))
          (took_point setup mask slot carriers grid points (column d) (number d) c (omega (arith, number_lt d)) (only d h) (point-stands d h))),
    )

    abbrev source : ℕ → Point
    source d = point_at grid (column d)

    walked : (n : ℕ) → n ≤ 1536 → ((d : ℕ) → d < n → column d < carriers) → length points₀ ≡ 3072 → Turn (puts number source n points₀) n
    unfolding puts
    walked zero h c long = walk_start
    walked (suc n) h c long =
        walk_next n (walked n (omega arith) (λ d l. c d (omega arith)) long) (omega arith) (c n (omega arith)) (length_puts number source n points₀ ∙ long)

    -- no point that counts is left, since the next column is past the count or there is none
    walk_done : {points : List Float} {d : ℕ} → Turn points d → (d < 1536 → carriers ≤ column d) → Took setup mask slot carriers grid 0 setup.size points₀ points
    walk_done {points} {d} t over =
        took_then t.1
        (took_none (edge d) setup.size points (edge_most d t.0)
        (λ n hn l low k. let b : n < 1536 = omega (arith, all-lit) in
        let e = stands-at n b in
        let p = past_edge d (data_of n) (data_lt n b) t.0 (omega arith) in
        let o = over (omega (arith, data_lt n b)) in
        cases (eqb d (data_of n))
        (λ z. omega (arith, ap column (eqb-true d (data_of n) z)))
        (λ z. omega (arith, rises d (data_of n) (omega (arith, eqb-false d (data_of n) z)) (data_lt n b)))))

    -- so what is dropped is what is taken
    pub dropped_took : (columns numbers : List ℕ) → columns ≡ tabulate 1536 column → numbers ≡ tabulate 1536 number → length points₀ ≡ 3072
        → (points : List Float) → Dropped columns numbers carriers grid points₀ points → Took setup mask slot carriers grid 0 setup.size points₀ points
    dropped_took columns numbers ec en long points t =
        let n = t.count in
        let at : (d : ℕ) → d < 1536 → entry columns d ≡ column d = entry_of columns 1536 column ec in
        let same_points : points ≡ puts number source n points₀ =
        t.after_is ∙ puts_as (entry numbers) number (λ d. point_at grid (entry columns d)) source n points₀ (λ d h. entry_of numbers 1536 number en d (omega (arith, t.count_most))) (λ d h. ap (point_at grid) (at d (omega (arith, t.count_most)))) in
        rw same_points
        (walk_done {d = n} (walked n t.count_most (λ d h. rw (← at d (omega (arith, t.count_most))) (t.counted d h)) long)
        (λ h. rw (← at n h) (t.over h)))

  -- what the dropping asks
  pub columns_within : (columns numbers : List ℕ) → columns ≡ tabulate 1536 column → numbers ≡ tabulate 1536 number
      → (floats long : ℕ) → floats ≡ 2 * grid_points setup → long ≡ 96 * lit_subchannels setup mask → ColumnsWithin columns numbers floats long
  columns_within columns numbers ec en floats long ef el d h = (
    omega (arith, ef, entry_of columns 1536 column ec d h, column_lt d h, grid_is),
    omega (arith, el, all-lit, entry_of numbers 1536 number en d h, number_lt d),
  )
