-- `plan_numbers::plan_in` meets its contract.
use Rattle.plan_numbers.proofs.plan_in.Goals as goal

pub returns : goal.returns
returns c = rw c.places.ensures
