-- The runs of a symbol, mode by mode: their pilots, and their points from one lemma over the two pilots.
use Rattle.base.proofs.Prelude.{◌≡◌, refl, sym, ap, ◌∙◌, Bool, true, false, List, ℕ, ◌+◌, ◌-◌, ◌*◌, ◌/◌, ◌%◌, ◌<◌, ◌≤◌, arith, digits_mod, digits_div}
use Rattle.base.proofs.Prelude.{eqb, ltb, leb, eq-eqb, eqb-true, eqb-false, ne_eqb, ltb-true, ltb-false}
use Rattle.base.proofs.{Test.{cases, true_false}, Tabulate.entry_of}
use Rattle.base.proofs.LeaveOut.{split, skip_unskip, skip_ne, skip_below, skip_above, unskip_below, unskip_above, unskip_le, skip_before, before_skip}
use mathlib.Core.Logic.{◌⊎◌, inl, inr}
use borrow.Author.Tests.{leb-true, leb-false}
use Rattle.base.specs.{Choice.pick, Steps.{skip, unskip}}
use Rattle.carriers.specs.Bin.{bin_pilot_place, is_bin_pilot}
use Rattle.carriers.proofs.Bin.{pilot_place_le}
use Rattle.clusters.specs.Cluster.{is_cluster_pilot, first_pilot, second_pilot}
use Rattle.pusc_dl.specs.Map.{used_group, logical_of}
use Rattle.pusc_dl_lit.specs.Model.{cluster_lit}
use Rattle.pusc_ul.specs.Tile.{is_tile_pilot}
use Rattle.modes.specs.{Setup.{Setup, setup_lent, setup_with}, Mode.{width, width_of, band, band_of}}
use Rattle.formulas.specs.Formula.{is_pilot}
use Rattle.modes.specs.Model.{OverBins, Unlent, pusc-dl, pusc-ul, ofusc, amc}
use Rattle.modes.proofs.{Choice.{amc_not_0, amc_column, bins_column}, Accept.width_is}
use Rattle.mask.specs.Mask.{is_used_lit_of, is_used_lit}
use Rattle.runs.specs.Model.{run_step, run_count, cluster_runs, tile_runs, bin_runs, run_first, run_second, runs_of, run_place, points_below, run_points, points_within, LitRuns}
use Rattle.runs.specs.Model.{IsRun, run_lit}
use Rattle.runs.specs.declared.Runs.{Runs}

-- the runs by the mode
module _ (c : Setup) (y : ℕ) where
  pub runs_0 : c.mode ≡ 0 → cluster_runs y ≡ runs_of c y
  unfolding run_first run_second run_step run_count
  runs_0 q = rw q

  pub runs_1 : c.mode ≡ 1 → tile_runs y ≡ runs_of c y
  unfolding run_first run_second run_step run_count
  runs_1 q = rw q

  pub runs_bins : OverBins c.mode → bin_runs (width c) y ≡ runs_of c y
  unfolding run_first run_second run_step run_count
  runs_bins o = simp bins_column

  pub runs_none : 0 ≡ run_first c y → 0 ≡ run_second c y → 1 ≡ run_step c → 0 ≡ run_count c → record { first = 0; second = 0; step = 1; count = 0 } ≡ runs_of c y
  runs_none e₁ e₂ e₃ e₄ = cc

-- a point of a run lies below a place exactly when it is one of those that are counted there
module _ (b : Runs) (j place : ℕ) where
  pub place_below : j < points_below b place → run_place b j < place
  unfolding points_below run_place
  place_below h = before_skip b.second (skip b.first j) place (before_skip b.first j (unskip b.second place) h)

  pub below_place : run_place b j < place → j < points_below b place
  unfolding points_below run_place
  below_place h = skip_before b.first j (unskip b.second place) (skip_before b.second (skip b.first j) place h)

-- and so with the first `room` places, where the run may have fewer
module _ (b : Runs) (j room : ℕ) where
  pub within_place : j < points_within b room → (j < run_points b) × (run_place b j < room)
  unfolding points_within
  within_place h =
      cases (ltb room b.step)
      (λ t. let l = ltb-true room b.step t in
      let low = place_below b j room (rw t at h) in
      (below_place b j b.step (omega arith), low))
      (λ t. let l = ltb-false room b.step t in
      let h' : j < run_points b = rw t at h in
      (h', omega (arith, place_below b j b.step h')))

  pub place_within : j < run_points b → run_place b j < room → j < points_within b room
  unfolding points_within
  place_within h low = cases (ltb room b.step) (λ t. rw t (below_place b j room low)) (λ t. rw t h)

-- no more than the run has
pub within_few : (b : Runs) (room : ℕ) → points_within b room ≤ run_points b
within_few b room =
    cases (leb (points_within b room) (run_points b))
    (λ t. leb-true (points_within b room) (run_points b) t)
    (λ t. absurd (omega (arith, (within_place b (run_points b) room (leb-false (points_within b room) (run_points b) t)).0)))

-- what is known of the runs of a symbol
pub record RunLaw (c : Setup) (y : ℕ) : Type 0 where
  pub step_pos : 0 < run_step c
  pub points_few : run_points (runs_of c y) ≤ 12
  -- together they are the used numbers, and none has DC among its carriers
  pub used_is : run_count c * run_step c ≡ (band c).used
  pub half_run : ℕ
  pub half_is : half_run * run_step c ≡ (band c).half
  -- the pilots are the places `first` and `second` of each, where it has these
  pub apart : run_first c y < run_second c y
  pub pilots : (i p : ℕ) → p < run_step c → is_pilot c y (i * run_step c + p) ≡ pick (eqb p (run_first c y)) true (eqb p (run_second c y))
  -- and a run is lit or not
  pub lit : (mask i p : ℕ) → p < run_step c → is_used_lit c mask (i * run_step c + p) ≡ is_used_lit c mask (i * run_step c)

-- two tests: both fail, or one holds
neither : (a b : Bool) → pick a true b ≡ false → (a ≡ false) × (b ≡ false)
neither true b e = absurd (true_false e)
neither false b e = (refl, e)

either : (a : Bool) → pick a true true ≡ true
either true = refl
either false = refl

-- A run's points are the places that are no pilots.
module _ {c : Setup} {y : ℕ} (law : RunLaw c y) (i : ℕ) where
  abbrev b : Runs
  b = runs_of c y

  pub first-pilot : b.first < b.step → is_pilot c y (i * b.step + b.first) ≡ true
  first-pilot h = law.pilots i b.first h ∙ rw (eq-eqb b.first b.first refl)

  pub second-pilot : b.second < b.step → is_pilot c y (i * b.step + b.second) ≡ true
  second-pilot h = law.pilots i b.second h ∙ rw (eq-eqb b.second b.second refl) (either (eqb b.second b.first))

  pub pilot_place : (p : ℕ) → p < b.step → is_pilot c y (i * b.step + p) ≡ true → (p ≡ b.first) ⊎ (p ≡ b.second)
  pilot_place p h e =
      cases (eqb p b.first)
      (λ t. inl (eqb-true p b.first t))
      (λ t. inr (eqb-true p b.second (sym (law.pilots i p h ∙ rw t) ∙ e)))

  not_first : (j : ℕ) → run_place b j ≡ b.first → ⊥
  unfolding run_place
  not_first j e =
      let x = skip b.first j in
      split b.second x
      (λ l. skip_ne b.first j (sym (skip_below b.second x l) ∙ e))
      (λ l. omega (arith, law.apart, skip_above b.second x l, e))

  not_second : (j : ℕ) → run_place b j ≡ b.second → ⊥
  unfolding run_place
  not_second j e = skip_ne b.second (skip b.first j) e

  pub no_pilot : (j : ℕ) → j < run_points b → is_pilot c y (i * b.step + run_place b j) ≡ false
  no_pilot j h =
      law.pilots i (run_place b j) (place_below b j b.step h)
      ∙ rw (ne_eqb (run_place b j) b.first (not_first j), ne_eqb (run_place b j) b.second (not_second j))

  pub back : (p : ℕ) → p < b.step → is_pilot c y (i * b.step + p) ≡ false → run_place b (points_below b p) ≡ p
  unfolding run_place points_below
  back p h e =
      let n = neither _ _ (sym (law.pilots i p h) ∙ e) in
      let n₁ = eqb-false p b.first n.0 in
      let n₂ = eqb-false p b.second n.1 in
      let x = unskip b.second p in
      let other : x ≡ b.first → ⊥ =
      λ e. split b.second p
      (λ l. n₁ (sym (unskip_below b.second p (omega arith)) ∙ e))
      (λ l. let l' : b.second < p = omega (arith, n₂) in omega (arith, law.apart, unskip_above b.second p l', e)) in
      ap (skip b.second) (skip_unskip b.first x other) ∙ skip_unskip b.second p n₂

pub cluster_apart : (y : ℕ) → (first_pilot y < second_pilot y) × (second_pilot y < 14)
unfolding first_pilot second_pilot
cluster_apart y = cases (eqb (y % 2) 0) (λ t. rw t (omega arith)) (λ t. rw t (omega arith))

cluster_test : (y i p : ℕ) → p < 14 → is_cluster_pilot y (i * 14 + p) ≡ pick (eqb p (first_pilot y)) true (eqb p (second_pilot y))
unfolding is_cluster_pilot
cluster_test y i p h = rw (digits_mod i h)

cluster_run : (cell mask i p : ℕ) → p < 14 → is_used_lit (setup_with 0 2048 cell) mask (i * 14 + p) ≡ is_used_lit (setup_with 0 2048 cell) mask (i * 14)
unfolding is_used_lit_of used_group logical_of
cluster_run cell mask i p h =
    let z : i * 14 / 14 ≡ i = omega arith in
    rw (digits_div i h, z)

-- how many points a run has: its places but for the pilots
pub two_points : (b : Runs) → b.first < b.second → b.second < b.step → run_points b ≡ b.step - 2
unfolding points_below
two_points b f s =
    ap (unskip b.first) (unskip_above b.second b.step s) ∙ unskip_above b.first (b.step - 1) (omega arith) ∙ omega arith

pub one_point : (b : Runs) → b.first < b.step → b.step ≤ b.second → run_points b ≡ b.step - 1
unfolding points_below
one_point b f s = ap (unskip b.first) (unskip_below b.second b.step s) ∙ unskip_above b.first b.step f

pub all_points : (b : Runs) → b.step ≤ b.first → b.step ≤ b.second → run_points b ≡ b.step
unfolding points_below
all_points b f s = ap (unskip b.first) (unskip_below b.second b.step s) ∙ unskip_below b.first b.step f

-- A run has no more points than places.
pub few_points : (b : Runs) → run_points b ≤ b.step
unfolding points_below
few_points b = omega (arith, unskip_le b.first (unskip b.second b.step), unskip_le b.second b.step)

-- tiles: corners, or none
module _ (y : ℕ) where
  tile_apart : (tile_runs y).first < (tile_runs y).second
  tile_apart = cases (eqb (y % 3) 1) (λ t. rw t (omega arith)) (λ t. rw t (omega arith))

  tile_test : (i p : ℕ) → p < 4 → is_tile_pilot (y % 3) (i * 4 + p) ≡ pick (eqb p (tile_runs y).first) true (eqb p (tile_runs y).second)
  unfolding is_tile_pilot
  tile_test i p h =
      cases (eqb (y % 3) 1)
      (λ t. rw (t, ne_eqb p 4 (λ e. omega arith), ne_eqb p 5 (λ e. omega arith)))
      (λ t. rw (t, digits_mod i h))

-- bins: one pilot
module _ (n y : ℕ) where
  pub bin_apart : bin_pilot_place y < 9
  bin_apart = omega (arith, pilot_place_le y)

  bin_test : (i p : ℕ) → p < 9 → is_bin_pilot y (i * 9 + p) ≡ pick (eqb p (bin_pilot_place y)) true (eqb p 9)
  unfolding is_bin_pilot
  bin_test i p h = rw (digits_mod i h, ne_eqb p 9 (λ e. omega arith)) (alone (eqb p (bin_pilot_place y)))
    where
      alone : (b : Bool) → b ≡ pick b true false
      alone true = refl
      alone false = refl

  -- of whichever setup over bins
  bin_law : (c : Setup) → runs_of c y ≡ bin_runs n y → (band c).used ≡ 54 * n → (band c).half ≡ 27 * n
      → ((u : ℕ) → is_pilot c y u ≡ is_bin_pilot y u) → ((mask u : ℕ) → is_used_lit c mask u ≡ true) → RunLaw c y
  bin_law c e used half same all =
      let es : run_step c ≡ 9 = ap (λ (b : Runs). b.step) e in
      let ec : run_count c ≡ 6 * n = ap (λ (b : Runs). b.count) e in
      record {
        step_pos = omega arith;
        points_few = omega (arith, few_points (runs_of c y));
        used_is = rw (es, ec) (omega arith);
        half_run = 3 * n;
        half_is = rw es (omega arith);
        apart = rw (ap (λ (b : Runs). b.first) e, ap (λ (b : Runs). b.second) e) bin_apart;
        pilots = λ i p h.
            same (i * run_step c + p) ∙ ap (λ (s : ℕ). is_bin_pilot y (i * s + p)) es ∙ bin_test i p (rw es at h)
            ∙ sym (ap (λ (b : Runs). pick (eqb p b.first) true (eqb p b.second)) e);
        lit = λ mask i p h. all mask (i * run_step c + p) ∙ sym (all mask (i * run_step c));
      }

-- each kind of run
pub run_law : {c : Setup} → Unlent c → (y : ℕ) → RunLaw c y
unfolding run_step run_count run_first run_second band_of is_pilot is_used_lit_of width_of
run_law (pusc-dl {cell = cell} h) y =
    let a = cluster_apart y in
    record {
      step_pos = omega arith;
      points_few = omega (arith, two_points (cluster_runs y) a.0 a.1);
      used_is = refl;
      half_run = 60;
      half_is = refl;
      apart = a.0;
      pilots = cluster_test y;
      lit = λ mask i p l. cluster_run cell mask i p l;
    }
run_law (pusc-ul h) y =
    record {
      step_pos = omega arith;
      points_few = omega (arith, few_points (tile_runs y));
      used_is = refl;
      half_run = 210;
      half_is = refl;
      apart = tile_apart y;
      pilots = tile_test y;
      lit = λ mask i p l. refl;
    }
run_law (ofusc {n = n} {cell = cell} {pilots = lent} w h) y =
    let c = setup_lent 2 (64 * n) cell lent in
    bin_law n y c (sym (runs_bins c y (omega arith)) ∙ ap (λ (t : ℕ). bin_runs t y) (width_is n))
    (ap (λ (t : ℕ). 54 * t) (width_is n)) (ap (λ (t : ℕ). 27 * t) (width_is n)) (λ u. refl) (λ mask u. refl)
run_law (amc {mode = mode} {n = n} {cell = cell} {pilots = lent} q w h) y =
    let c = setup_lent mode (64 * n) cell lent in
    bin_law n y c (sym (runs_bins c y (omega arith)) ∙ ap (λ (t : ℕ). bin_runs t y) (width_is n))
    (simp amc_column (ap (λ (t : ℕ). 54 * t) (width_is n))) (simp amc_column (ap (λ (t : ℕ). 27 * t) (width_is n)))
    (λ u. simp amc_column) (λ mask u. rw (amc_not_0 q))

-- a run is one of PUSC downlink's 120 clusters, where it has these
pub run_is : {c : Setup} → Unlent c → (i : ℕ) → i < run_count c → IsRun c i
unfolding run_count
run_is (pusc-dl h) i l e = l
run_is (pusc-ul h) i l e = absurd (omega arith)
run_is (ofusc w h) i l e = absurd (omega arith)
run_is (amc q w h) i l e = absurd (omega arith)

-- and the table of lit runs tells whether it is lit
pub run_light : {c : Setup} → Unlent c → (mask : ℕ) (lit : List ℕ) → LitRuns c mask lit → (i : ℕ) → i < run_count c → run_lit c lit i ≡ pick (is_used_lit c mask (i * run_step c)) 1 0
unfolding run_lit run_count run_step is_used_lit_of cluster_lit
run_light (pusc-dl {cell = cell} h) mask lit t i l = entry_of lit 120 (cluster_lit cell mask) (t refl) i l
run_light (pusc-ul h) mask lit t i l = refl
run_light (ofusc w h) mask lit t i l = refl
run_light (amc q w h) mask lit t i l = rw (amc_not_0 q)

module _ {c : Setup} (v : Unlent c) (mask : ℕ) (lit : List ℕ) (t : LitRuns c mask lit) (i : ℕ) (h : i < run_count c) (x : ℕ) (e : x ≡ run_lit c lit i) where
  pub run_dark : x ≡ 0 → is_used_lit c mask (i * run_step c) ≡ false
  run_dark z =
      cases (is_used_lit c mask (i * run_step c))
      (λ b. absurd (let one : x ≡ 1 = e ∙ run_light v mask lit t i h ∙ ap (λ (a : Bool). pick a 1 0) b in omega arith))
      (λ b. b)

  pub run_bright : (x ≡ 0 → ⊥) → is_used_lit c mask (i * run_step c) ≡ true
  run_bright ne =
      cases (is_used_lit c mask (i * run_step c))
      (λ b. b)
      (λ b. absurd (ne (e ∙ run_light v mask lit t i h ∙ ap (λ (a : Bool). pick a 1 0) b)))
