-- `run_walk::drop_run` meets its contract.
use Rattle.base.proofs.Prelude.{arith}
use Rattle.modes.proofs.Lent.{valid_alone}
use Rattle.runs.proofs.Law.{run_is, run_dark, run_bright}
use Rattle.run_walk.proofs.{Taken.dark_run, Dropped.{run_asks, run_dropped, from_small}}
use Rattle.run_walk.proofs.drop_run.Goals as goal

pub run_lit-requires : goal.run_lit-requires
run_lit-requires c = run_is c.requires.unlent _ c.requires.row_bound.1

pub returns-then-run_lit-eq0 : goal.returns-then-run_lit-eq0
returns-then-run_lit-eq0 c =
    let p = c.requires in
    dark_run _ (valid_alone p.unlent) _ _ p.unlent _ _ p.row_bound.0 p.row_bound.1
    (run_dark p.unlent c.args.mask c.args.lit.now p.tables.0 _ p.row_bound.1 _ c.run_lit.ensures c.if-run_lit-eq0.true) _ _ _

pub points_within-n-requires : goal.points_within-n-requires
points_within-n-requires c = c.requires.own_value.all_is

pub overflow_mul-i : goal.overflow_mul-i
overflow_mul-i c = from_small c.requires.unlent _ c.requires.row_bound.1 _ c.requires.own_value.run_is

pub drop_run-requires : goal.drop_run-requires
drop_run-requires c =
    let p = c.requires in
    run_asks _ (valid_alone p.unlent) p.unlent c.args.mask c.args.slot _ _ p.row_bound.0 p.row_bound.1 c.args.grid.now c.args.points.now
    (run_bright p.unlent c.args.mask c.args.lit.now p.tables.0 _ p.row_bound.1 _ c.run_lit.ensures (λ z. omega arith))
    _ c.args.carriers p.row_bound.2 _ p.own_value.shape_is _ p.own_value.places_are _ _ p.own_value.run_is p.own_value.point_is
    c.args.numbers.now p.tables.1 _ c.points_within-n.ensures _ _ p.row_bound.5 p.row_bound.4

pub returns : goal.returns
returns c =
    let p = c.requires in
    run_dropped _ (valid_alone p.unlent) p.unlent c.args.mask c.args.slot _ _ p.row_bound.0 p.row_bound.1 c.args.grid.now c.args.points.now
    (run_bright p.unlent c.args.mask c.args.lit.now p.tables.0 _ p.row_bound.1 _ c.run_lit.ensures (λ z. omega arith))
    _ c.args.carriers p.row_bound.2 _ p.own_value.shape_is _ p.own_value.places_are _ _ p.own_value.run_is p.own_value.point_is
    c.args.numbers.now p.tables.1 _ c.points_within-n.ensures p.row_bound.4 _ c.drop_run.ensures
