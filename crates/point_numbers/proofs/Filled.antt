-- A row's table of numbers, filled run after run.
use Rattle.base.proofs.Prelude.{◌≡◌, refl, sym, ap, ◌∙◌, true, List, ℕ, ◌+◌, ◌*◌, ◌<◌, ◌≤◌, arith, digits_lt, eqb, length, replicate}
use Rattle.base.proofs.Prelude.{length-replicate, eqb-true, eqb-false}
use Rattle.base.proofs.{Test.cases, Tabulate.WrittenOver}
use Rattle.base.specs.{Steps.entry, Model.Starts}
use Rattle.ofusc.proofs.Sequence.{size}
use Rattle.modes.specs.{Setup.Setup, Mode.width, Model.{OverBins, Unlent, pusc-dl, pusc-ul, ofusc, amc, own}}
use Rattle.modes.proofs.{Choice.{at_1, at_bins, by-mode}, ByMode.bin_width}
use Rattle.mask.specs.Mask.{is_used_lit}
use Rattle.runs.specs.Model.{run_step, run_count, cluster_runs, tile_runs, bin_runs, run_first, run_second, runs_of, run_points}
use Rattle.point_numbers.specs.Model.{run_number, run_stride, point_stride, NumbersBelow, RowNumbers, RunPut}
use Rattle.runs.proofs.Law.{run_law, bin_apart, runs_bins, one_point, two_points, cluster_apart, few_points}

-- a run that the loop has put
pub put_all : {before own : List ℕ} (from : ℕ) {after : List ℕ} {j : ℕ} → WrittenOver 0 1680 12 (λ k. from + k) (entry own) before after j → 12 ≤ j → length before ≡ 1680
    → RunPut before own from after
put_all from w h e =
    record {
      long = w.written.long ∙ sym e;
      kept = λ k l. w.others k (λ i i_lt q. omega arith);
      put = λ k l. w.written.entries k (omega arith);
    }

-- in modes whose table has run after run: the table has room for all runs, a run for its points, and these stand side by side
pub record ByRun (c : Setup) (y : ℕ) : Type 0 where
  pub run_room : (i : ℕ) → i < run_count c → i * run_stride c + 12 ≤ 1680
  pub points_room : run_points (runs_of c y) ≤ run_stride c
  pub next_point : point_stride c ≡ 1

bins_by_run : (c : Setup) (y : ℕ) → OverBins c.mode → width c ≤ 32 → ByRun c y
unfolding run_count run_stride point_stride
bins_by_run c y o few =
    let stride : 8 ≡ run_stride c = by-mode (at_bins o) in
    let count : 6 * width c ≡ run_count c = by-mode (at_bins o) in
    record {
      run_room = λ i l. rw (← stride) (omega arith);
      points_room = omega (arith, stride, ap run_points (runs_bins c y o), one_point (bin_runs (width c) y) (bin_apart (width c) y) (omega arith));
      next_point = sym (by-mode (at_bins o));
    }

pub by_run : {c : Setup} → Unlent c → (y : ℕ) → (c.mode ≡ 1 → ⊥) → ByRun c y
unfolding run_count run_stride point_stride run_first run_second run_step
by_run (pusc-dl h) y ne =
    let a = cluster_apart y in
    record {
      run_room = λ i l. omega arith;
      points_room = omega (arith, two_points (cluster_runs y) a.0 a.1);
      next_point = refl;
    }
by_run (pusc-ul h) y ne = absurd (ne refl)
by_run {c} (ofusc {pilots = lent} w h) y ne = bins_by_run c y (omega arith) (size (bin_width (own (ofusc {pilots = lent} w h)) (omega arith))).most
by_run {c} (amc {pilots = lent} q w h) y ne = bins_by_run c y (omega arith) (size (bin_width (own (amc {pilots = lent} q w h)) (omega arith))).most

pub room : {c : Setup} → Unlent c → (c.mode ≡ 1 → ⊥) → (i stride : ℕ) → stride ≡ run_stride c → (count : ℕ) → count ≡ run_count c → i < count → i * stride + 12 ≤ 1680
room v ne i stride e count f h = rw e ((by_run v 0 ne).run_room i (omega arith))

-- what holds before each turn of the loop over runs: the numbers of the first i are there
pub record RunsTurn (c : Setup) (mask y : ℕ) (numbers : List ℕ) (i : ℕ) : Type 0 where
  pub within : i ≤ run_count c
  pub long : length numbers ≡ 1680
  pub below : NumbersBelow c mask y i numbers

pub runs_none : (c : Setup) (mask y : ℕ) → RunsTurn c mask y (replicate {A = ℕ} 1680 0) 0
runs_none c mask y = record { within = omega arith; long = length-replicate {A = ℕ} 1680 0; below = λ i j h. absurd (omega arith) }

module _ {c : Setup} {mask y : ℕ} {numbers : List ℕ} {i : ℕ} (t : RunsTurn c mask y numbers i) where
  pub runs_next : Unlent c → (c.mode ≡ 1 → ⊥) → i < run_count c → (its : List ℕ) → (is_used_lit c mask (i * run_step c) ≡ true → Starts (run_points (runs_of c y)) (run_number c mask y i) its)
      → (stride : ℕ) → stride ≡ run_stride c → (numbers' : List ℕ) → RunPut numbers its (i * stride) numbers' → RunsTurn c mask y numbers' (i + 1)
  runs_next v ne hi its starts stride e numbers' p =
      let law = by_run v y ne in
      let few = (run_law v y).points_few in
      record {
        within = omega arith;
        long = p.long ∙ t.long;
        below = λ r j hr hj lit.
            let at : r * run_stride c + j * point_stride c ≡ r * stride + j = rw (law.next_point, e) (omega arith) in
            ap (entry numbers') at
            ∙ cases (eqb r i)
            (λ q. let z = eqb-true r i q in
            rw z (p.put j (omega arith) ∙ starts (rw z at lit) j hj))
            (λ q. let ne' = eqb-false r i q in
            let earlier : r < i = omega arith in
            p.kept (r * stride + j) (rw e (digits_lt earlier (omega (arith, law.points_room)))) ∙ ap (entry numbers) (sym at) ∙ t.below r j earlier hj lit);
      }

  pub runs_all : run_count c ≤ i → RowNumbers c mask y numbers
  runs_all h r j hr hj lit = t.below r j (omega arith) hj lit

-- every point's number stands in the table
tiles_in_table : {c : Setup} → Unlent c → c.mode ≡ 1 → (y i j : ℕ) → i < run_count c → j < run_points (runs_of c y) → i * run_stride c + j * point_stride c < 1680
unfolding run_count run_stride point_stride run_first run_second run_step
tiles_in_table (pusc-dl h) e y i j hi hj = absurd (omega arith)
tiles_in_table (pusc-ul h) e y i j hi hj = omega (arith, few_points (tile_runs y))
tiles_in_table (ofusc w h) e y i j hi hj = absurd (omega arith)
tiles_in_table (amc q w h) e y i j hi hj = absurd (omega arith)

pub in_table : {c : Setup} → Unlent c → (y i j : ℕ) → i < run_count c → j < run_points (runs_of c y) → i * run_stride c + j * point_stride c < 1680
in_table {c} v y i j hi hj =
    cases (eqb c.mode 1)
    (λ t. tiles_in_table v (eqb-true c.mode 1 t) y i j hi hj)
    (λ t. let law = by_run v y (eqb-false c.mode 1 t) in
    rw law.next_point (omega (arith, law.run_room i hi, (run_law v y).points_few)))

pub from_below : {c : Setup} → Unlent c → (i : ℕ) → i < run_count c → i * run_stride c < 1680
unfolding run_count run_stride
from_below {c} v i h =
    cases (eqb c.mode 1)
    (λ t. let e = eqb-true c.mode 1 t in
    let one : 1 ≡ run_stride c = by-mode (at_1 e) in
    let count : 420 ≡ run_count c = by-mode (at_1 e) in
    rw (← one) (omega arith))
    (λ t. omega (arith, (by_run v 0 (eqb-false c.mode 1 t)).run_room i h))
