-- `capi_plan::bp_zone_plan_write` meets its contract.
use Rattle.base.proofs.Prelude.{arith}
use Rattle.capi_plan.specs.Plan.{write_out}
use Rattle.capi_plan.proofs.Plan.{few_bytes}
use Rattle.capi_plan.proofs.bp_zone_plan_write.Goals as goal

pub overflow_cast-written : goal.overflow_cast-written
overflow_cast-written c = omega (arith, few_bytes _ _ _ _ c.in-Ok.ensures)

pub returns-in-Ok : goal.returns-in-Ok
unfolding write_out
returns-in-Ok c = rw (← c.plan_in-plan.ensures, ← c.in-Ok.ensures)

pub returns-in-Err : goal.returns-in-Err
unfolding write_out
returns-in-Err c = rw (← c.plan_in-plan.ensures, ← c.in-Err.ensures, c.from.ensures)
