-- `plan_read::said` meets its contract.
use Rattle.base.proofs.Prelude.{refl}
use Rattle.plan.specs.Plan.{in_places}
use Rattle.plan_read.proofs.said.Goals as goal

pub returns-in-Err : goal.returns-in-Err
unfolding in_places
returns-in-Err c = rw c.in-Err.is refl
