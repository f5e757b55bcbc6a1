-- `capi_plan::bp_zone_plan_read` meets its contract: what was read is small enough for 32 bits.
use Rattle.base.proofs.Prelude.{arith}
use Rattle.plan_numbers.proofs.Laws.{read_small}
use Rattle.capi_plan.specs.Plan.{read_out}
use Rattle.capi_plan.proofs.bp_zone_plan_read.Goals as goal

pub overflow_cast-count : goal.overflow_cast-count
overflow_cast-count c = let small = read_small _ c.in-Ok.ensures in omega arith

pub overflow_cast-size : goal.overflow_cast-size
overflow_cast-size c = let small = read_small _ c.in-Ok.ensures in omega arith

pub numbers-requires : goal.numbers-requires
numbers-requires c = (read_small _ c.in-Ok.ensures).zones_are

pub returns-in-Ok : goal.returns-in-Ok
unfolding read_out
returns-in-Ok c = rw (← c.in-Ok.ensures, c.numbers.ensures)

pub returns-in-Err : goal.returns-in-Err
unfolding read_out
returns-in-Err c = rw (← c.in-Err.ensures, c.from.ensures)
