-- `row_walk::empty_row` meets its contract.
use Rattle.base.proofs.Prelude.{◌≡◌, refl, ap, ◌∙◌, ℕ, ◌+◌, ◌*◌, ◌<◌, arith}
use Rattle.carriers.specs.{declared.Band.Band, Band.carrier_of}
use Rattle.modes.specs.{Setup.{Setup, alone}, Mode.{symbols, band}}
use Rattle.modes.specs.Model.{Unlent, Valid}
use Rattle.modes.specs.Model as modes
use Rattle.modes.proofs.{ByMode.{few, row_few}, Lent.valid_alone}
use Rattle.runs.specs.{declared.Runs.Runs, Model.{run_step, run_count}}
use Rattle.run_walk.specs.{declared.RowRuns.RowRuns, Model.{RunsOfRow, run_start}}
use Rattle.run_walk.proofs.{Taken.{took_then, took_past, row_start, row_done, row_over}, Dropped.{start_used, start_small, start_is}}
use Rattle.row_walk.proofs.empty_row.Goals as goal

-- what is found of run i of a row, by the runs of the row's symbol
module _ (setup : Setup) (y : ℕ) (own : RowRuns) (e : RunsOfRow setup y own) where
  count_is : own.shape.count ≡ run_count setup
  count_is = ap (λ (b : Runs). b.count) e.shape_is

  step_is : own.shape.step ≡ run_step setup
  step_is = ap (λ (b : Runs). b.step) e.shape_is

  -- it starts on a used number,
  used_few : Unlent setup → Valid setup → (row : ℕ) → row < symbols setup → (i : ℕ) → i < own.shape.count → i * own.shape.step < 1729
  used_few its v row hr i h = rw step_is (omega (arith, start_used setup v its row i hr (omega (arith, count_is)), (few v.ranged).used_few))

  -- and where it is worked out to
  starts : (row i : ℕ) (b : Band) (x : ℕ) → b ≡ band setup → x ≡ carrier_of b (i * own.shape.step) → row * setup.size + x ≡ run_start setup row i
  starts row i b x f h = start_is setup row i _ _ _ refl step_is (h ∙ ap (λ (z : Band). carrier_of z (i * own.shape.step)) f)

-- a row past the count
pub returns-then-carriers-first : goal.returns-then-carriers-first
returns-then-carriers-first c = took_past _ _ _ (omega arith) c.if-carriers-first.true

pub overflow_mul-first : goal.overflow_mul-first
overflow_mul-first c = omega (arith, row_few (modes.own c.requires.unlent) c.args.row c.requires.slot_bound.1)

pub row_runs-own-requires : goal.row_runs-own-requires
row_runs-own-requires c = let p = c.requires in record { unlent = p.unlent; slot_bound = (p.slot_bound.0, p.slot_bound.1) }

pub row_numbers-numbers-requires : goal.row_numbers-numbers-requires
row_numbers-numbers-requires c =
    let p = c.requires in
    record { unlent = p.unlent; row_bound = (p.slot_bound.1, count_is (alone c.args.setup) _ _ c.row_runs-own.ensures); run_table = (p.lit_runs.1, p.lit_runs.2) }

pub band-band-requires : goal.band-band-requires
band-band-requires c = modes.own c.requires.unlent

pub loop-i-init : goal.loop-i-init
loop-i-init c = (omega arith, row_start _ (valid_alone c.requires.unlent) _ _ _ _ _ _)

pub overflow_mul-i : goal.overflow_mul-i
overflow_mul-i c = let p = c.requires in omega (arith, used_few (alone c.args.setup) _ _ c.row_runs-own.ensures p.unlent (valid_alone p.unlent) _ p.slot_bound.1 _ c.loop-i-test.true)

pub carrier-requires : goal.carrier-requires
carrier-requires c =
    let p = c.requires in
    let f = few (modes.own p.unlent) in
    (rw c.band-band.ensures (omega arith), omega (arith, used_few (alone c.args.setup) _ _ c.row_runs-own.ensures p.unlent (valid_alone p.unlent) _ p.slot_bound.1 _ c.loop-i-test.true))

pub overflow_add-start : goal.overflow_add-start
overflow_add-start c =
    let p = c.requires in
    omega (arith, starts (alone c.args.setup) _ _ c.row_runs-own.ensures c.args.row c.loop-i.i c.band-band.result c.carrier.result c.band-band.ensures c.carrier.ensures, start_small (alone c.args.setup) (valid_alone p.unlent) p.unlent c.args.row c.loop-i.i p.slot_bound.1 (omega (arith, count_is (alone c.args.setup) _ _ c.row_runs-own.ensures, c.loop-i-test.true)))

pub returns-then-carriers-start : goal.returns-then-carriers-start
returns-then-carriers-start c =
    let p = c.requires in
    took_then c.loop-i.invariant.1
    (row_over _ (valid_alone p.unlent) _ _ _ _ _ _ p.unlent _ (omega (arith, count_is (alone c.args.setup) _ _ c.row_runs-own.ensures, c.loop-i-test.true))
    (omega (arith, starts (alone c.args.setup) _ _ c.row_runs-own.ensures c.args.row c.loop-i.i c.band-band.result c.carrier.result c.band-band.ensures c.carrier.ensures, c.if-carriers-start.true)))

pub drop_run-requires : goal.drop_run-requires
drop_run-requires c =
    let p = c.requires in
    let at = starts (alone c.args.setup) _ _ c.row_runs-own.ensures c.args.row c.loop-i.i c.band-band.result c.carrier.result c.band-band.ensures c.carrier.ensures in
    record {
      unlent = p.unlent;
      row_bound = (p.slot_bound.1, omega (arith, count_is (alone c.args.setup) _ _ c.row_runs-own.ensures, c.loop-i-test.true), at, omega arith, c.loop-i.invariant.1.long ∙ p.slot_bound.2, p.slot_bound.3);
      own_value = c.row_runs-own.ensures;
      tables = (p.lit_runs.0, c.row_numbers-numbers.ensures);
    }

pub loop-i-preserved : goal.loop-i-preserved
loop-i-preserved c = (omega (arith, count_is (alone c.args.setup) _ _ c.row_runs-own.ensures, c.loop-i-test.true), took_then c.loop-i.invariant.1 c.drop_run.ensures)

pub returns : goal.returns
returns c =
    let p = c.requires in
    took_then c.loop-i.invariant.1 (row_done _ (valid_alone p.unlent) _ _ _ _ _ _ p.unlent _ c.loop-i.invariant.0 (omega (arith, count_is (alone c.args.setup) _ _ c.row_runs-own.ensures, c.loop-i-test.false)))
