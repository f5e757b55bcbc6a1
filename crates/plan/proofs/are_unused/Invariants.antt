-- `plan::are_unused` meets its contract: the places from the k-th on say what those from the count on say.
use Rattle.base.proofs.Prelude.{◌≡◌, length, drop}
use Rattle.plan.specs.Plan.{are_unused}
use Rattle.plan.proofs.are_unused.Given as goal

abbrev pub invariant-loop-k : goal.invariant-loop-k
invariant-loop-k l = (length l.plan.zones ≡ 8) × (are_unused (drop l.k l.plan.zones) ≡ are_unused (drop l.plan.count l.plan.zones))
