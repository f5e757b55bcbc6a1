use Rattle.base.proofs.Prelude.{arith}
use Rattle.point_numbers.proofs.Filled.{room, runs_none, runs_next, runs_all}
use Rattle.point_numbers.proofs.numbers_by_run.Goals as goal

pub loop-i-init : goal.loop-i-init
loop-i-init c = runs_none _ _ _

pub run_numbers-own-requires : goal.run_numbers-own-requires
run_numbers-own-requires c = let p = c.requires in record { unlent = p.unlent; fact = (p.fact.0, p.fact.1, omega (arith, p.fact.2, c.loop-i-test.true)); run_table = p.run_table }

pub overflow_mul-i : goal.overflow_mul-i
overflow_mul-i c = let p = c.requires in omega (arith, room p.unlent p.fact.0 _ _ c.row_strides-stride.ensures.0 _ p.fact.2 c.loop-i-test.true)

pub put_run-requires : goal.put_run-requires
put_run-requires c = let p = c.requires in (room p.unlent p.fact.0 _ _ c.row_strides-stride.ensures.0 _ p.fact.2 c.loop-i-test.true, c.loop-i.invariant.long)

pub loop-i-preserved : goal.loop-i-preserved
loop-i-preserved c =
    let p = c.requires in
    runs_next c.loop-i.invariant p.unlent p.fact.0 (omega (arith, p.fact.2, c.loop-i-test.true)) _ c.run_numbers-own.ensures _ c.row_strides-stride.ensures.0 _ c.put_run.ensures

pub returns : goal.returns
returns c = runs_all c.loop-i.invariant (omega (arith, c.requires.fact.2, c.loop-i-test.false))
