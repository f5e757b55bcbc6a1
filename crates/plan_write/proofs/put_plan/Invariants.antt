-- `plan_write::put_plan` meets its contract: while zones are put, those that are done stand behind the count and the size.
use Rattle.base.proofs.Prelude.{◌+◌, ◌≤◌, length, take}
use Rattle.plan.specs.Plan.{each}
use Rattle.plan_write.specs.Write.{zone_bytes}
use Rattle.plan.proofs.Each.{Putting}
use Rattle.plan_write.proofs.put_plan.Given as goal

abbrev pub invariant-loop-k : goal.invariant-loop-k
invariant-loop-k l = Putting 8 zone_bytes l.initial.dest l.plan.count l.plan.zones l.initial.at l.dest l.at l.k × (l.plan.count ≤ 8) × (l.initial.at + length (each zone_bytes (take l.plan.count l.plan.zones)) ≤ length l.initial.dest)
