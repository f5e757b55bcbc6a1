use Rattle.base.proofs.Prelude.{◌≡◌, sym, ap, ◌∙◌, ℕ, ◌+◌, ◌*◌, ◌<◌, arith, rules}
use Rattle.modes.specs.{Setup.alone, Mode.symbols, Model.own}
use Rattle.modes.proofs.{ByMode.{slot_few, few}, Lent.valid_alone}
use Rattle.runs.specs.{declared.Runs.Runs, Model.{run_count, runs_of}}
use Rattle.runs.proofs.Law.{run_is}
use Rattle.ground.proofs.Pilots.{lit_two, none_row, row_start, last_in, long_1, run_next, run_next_1, row_done}
use Rattle.ground.proofs.pilot_row.Goals as goal
use Rattle.ground.proofs.pilot_row.Goals.{then-last-shape, else-last-shape}

symbol_few : (c : goal.After-symbols) → let a = c.args in a.slot * c.symbols.result + a.row < 4096
symbol_few c =
    omega (arith, few (own c.requires.unlent), slot_few (own c.requires.unlent) c.args.slot c.symbols.result c.requires.slot_bound.0 c.symbols.ensures, c.requires.slot_bound.1)

-- the runs of the row's symbol
shape_is : (c : goal.Then-shape) → let a = c.args in c.symbol_runs-shape.result ≡ runs_of (alone a.setup) (a.slot * symbols (alone a.setup) + a.row)
shape_is c = let a = c.args in c.symbol_runs-shape.ensures ∙ ap (λ (n : ℕ). runs_of (alone a.setup) (a.slot * n + a.row)) c.symbols.ensures

shape_is_2 : (c : goal.After-run_lit) → let a = c.args in c.symbol_runs-shape.result ≡ runs_of (alone a.setup) (a.slot * symbols (alone a.setup) + a.row)
shape_is_2 c = let a = c.args in c.symbol_runs-shape.ensures ∙ ap (λ (n : ℕ). runs_of (alone a.setup) (a.slot * n + a.row)) c.symbols.ensures

shape_is_3 : (c : goal.After-put_pilot-arg-1) → let a = c.args in c.symbol_runs-shape.result ≡ runs_of (alone a.setup) (a.slot * symbols (alone a.setup) + a.row)
shape_is_3 c = let a = c.args in c.symbol_runs-shape.ensures ∙ ap (λ (n : ℕ). runs_of (alone a.setup) (a.slot * n + a.row)) c.symbols.ensures

shape_is_6 : (c : goal.In-loop-i) → let a = c.args in c.symbol_runs-shape.result ≡ runs_of (alone a.setup) (a.slot * symbols (alone a.setup) + a.row)
shape_is_6 c = let a = c.args in c.symbol_runs-shape.ensures ∙ ap (λ (n : ℕ). runs_of (alone a.setup) (a.slot * n + a.row)) c.symbols.ensures

shape_is_7 : (c : goal.After-loop-i) → let a = c.args in c.symbol_runs-shape.result ≡ runs_of (alone a.setup) (a.slot * symbols (alone a.setup) + a.row)
shape_is_7 c = let a = c.args in c.symbol_runs-shape.ensures ∙ ap (λ (n : ℕ). runs_of (alone a.setup) (a.slot * n + a.row)) c.symbols.ensures

pub returns-then-shape : goal.returns-then-shape
returns-then-shape c =
    none_row _ (valid_alone c.requires.unlent) _ _ _ c.requires.unlent c.args.lit.now c.requires.lit_runs _ c.requires.slot_bound.1 _ (shape_is c) c.if-shape.true _

run_lt : (c : goal.After-run_lit) → c.loop-i.i < run_count (alone c.args.setup)
run_lt c = omega (arith, ap (λ (b : Runs). b.count) (shape_is_2 c), c.loop-i-test.true)

run_lt_2 : (c : goal.After-put_pilot-arg-1) → c.loop-i.i < run_count (alone c.args.setup)
run_lt_2 c = omega (arith, ap (λ (b : Runs). b.count) (shape_is_3 c), c.loop-i-test.true)

run_lt_5 : (c : goal.In-loop-i) → c.loop-i.i < run_count (alone c.args.setup)
run_lt_5 c = omega (arith, ap (λ (b : Runs). b.count) (shape_is_6 c), c.loop-i-test.true)

-- what a turn puts is 0.0 or the pilot point
pub bounds-points-run_lit : goal.bounds-points-run_lit
bounds-points-run_lit c =
    lit_two c.requires.unlent c.args.mask c.args.lit.now c.requires.lit_runs _ (run_lt c) _ c.run_lit.ensures

pub put_pilot-requires : goal.put_pilot-requires
put_pilot-requires c =
    let then = c.before.before.before in
    let start = then in
    record { unlent = c.requires.unlent; row_bound = (c.requires.slot_bound.1, run_lt_2 c, ap (λ (b : Runs). b.step) (shape_is_3 c), then.if-shape.false, then.loop-i.invariant.long ∙ c.requires.slot_bound.2); band_value = c.band-band.ensures }

pub put_pilot-requires-then-last-shape : goal.put_pilot-requires-then-last-shape
put_pilot-requires-then-last-shape c =
    let shape : c.symbol_runs-shape.result ≡ runs_of (alone c.args.setup) (c.args.slot * symbols (alone c.args.setup) + c.args.row) =
    c.symbol_runs-shape.ensures ∙ ap (λ (n : ℕ). runs_of (alone c.args.setup) (c.args.slot * n + c.args.row)) c.symbols.ensures in
    let lt : c.loop-i.i < run_count (alone c.args.setup) = omega (arith, ap (λ (b : Runs). b.count) shape, c.loop-i-test.true) in
    record {
      unlent = c.requires.unlent;
      row_bound = (
        c.requires.slot_bound.1,
        lt,
        ap (λ (b : Runs). b.step) shape,
        rw c.last_pilot-last.ensures (last_in _ (valid_alone c.requires.unlent) c.args.mask c.args.slot c.args.p c.requires.unlent c.args.lit.now c.requires.lit_runs _ c.requires.slot_bound.1 _ shape c.if-shape.false),
        long_1 _ (valid_alone c.requires.unlent) _ _ _ c.requires.unlent c.args.lit.now c.requires.lit_runs _ c.requires.slot_bound.1 _ shape c.if-shape.false c.requires.slot_bound.2 _ c.loop-i.invariant lt
            _ c.run_lit.ensures _ _ c.put_pilot.ensures,
      );
      band_value = c.band-band.ensures;
    }

pub loop-i-preserved : goal.loop-i-preserved
loop-i-preserved c =
    let shape : c.symbol_runs-shape.result ≡ runs_of (alone c.args.setup) (c.args.slot * symbols (alone c.args.setup) + c.args.row) =
    c.symbol_runs-shape.ensures ∙ ap (λ (n : ℕ). runs_of (alone c.args.setup) (c.args.slot * n + c.args.row)) c.symbols.ensures in
    let lt : c.loop-i.i < run_count (alone c.args.setup) = omega (arith, ap (λ (b : Runs). b.count) shape, c.loop-i-test.true) in
    elim c.if-last-shape.branch [
      | then-last-shape w ↦ rw w.grid-is (run_next _ (valid_alone c.requires.unlent) _ _ _ c.requires.unlent c.args.lit.now c.requires.lit_runs _ c.requires.slot_bound.1 _ shape c.if-shape.false c.requires.slot_bound.2 _ c.loop-i.invariant lt
          _ c.run_lit.ensures _ _ c.put_pilot.ensures _ c.last_pilot-last.ensures _ w.put_pilot-then-last-shape.ensures)
      | else-last-shape w ↦ rw w.grid-is (run_next_1 _ (valid_alone c.requires.unlent) _ _ _ c.requires.unlent c.args.lit.now c.requires.lit_runs _ c.requires.slot_bound.1 _ shape c.if-shape.false c.requires.slot_bound.2 _ c.loop-i.invariant lt
          _ c.run_lit.ensures _ _ c.put_pilot.ensures (sym c.last_pilot-last.ensures ∙ w.if-last-shape.false))
    ]

pub band-band-requires : goal.band-band-requires
band-band-requires c = search (own, rules)

pub overflow_mul-slot : goal.overflow_mul-slot
overflow_mul-slot c = omega (arith, symbol_few c)

pub overflow_add-slot : goal.overflow_add-slot
overflow_add-slot c = omega (arith, symbol_few c)

pub loop-i-init : goal.loop-i-init
loop-i-init c = row_start _ (valid_alone c.requires.unlent) _ _ _ _ _

pub run_lit-requires : goal.run_lit-requires
run_lit-requires c = run_is c.requires.unlent _ (run_lt_5 c)

pub offset_bounds-points-run_lit : goal.offset_bounds-points-run_lit
offset_bounds-points-run_lit c = omega (arith, bounds-points-run_lit c)

pub shape_of-grid : goal.shape_of-grid
shape_of-grid c = c.loop-i.invariant.long

pub returns : goal.returns
returns c = row_done _ (valid_alone c.requires.unlent) _ _ _ c.requires.unlent _ c.loop-i.invariant (omega (arith, ap (λ (b : Runs). b.count) (shape_is_7 c), c.loop-i-test.false))
