-- `plan_write::put_zone` meets its contract: while values are put, those that are done stand at the place.
use Rattle.base.proofs.Prelude.{◌+◌, ◌≤◌, length, take}
use Rattle.value.specs.Value.{encode}
use Rattle.plan.specs.Plan.{each}
use Rattle.plan_write.proofs.Bytes.{Within, limits}
use Rattle.plan.proofs.Each.{Putting}
use Rattle.plan_write.proofs.put_zone.Given as goal

abbrev pub invariant-loop-k : goal.invariant-loop-k
invariant-loop-k l = Putting 4 encode l.initial.dest 4 l.values l.at l.dest l.next l.k × Within l.values limits × (l.at + length (each encode (take 4 l.values)) ≤ length l.initial.dest)
