-- `plan_text::put_zones` meets its contract: while lines are put, those that are done stand at the start.
use Rattle.base.proofs.Prelude.{◌*◌, ◌≤◌}
use Rattle.plan.proofs.{Each.{Putting}}
use Rattle.plan_text.specs.Lines.{line_of}
use Rattle.plan_text.proofs.put_zones.Given as goal

abbrev pub invariant-loop-k : goal.invariant-loop-k
invariant-loop-k l = Putting 8 line_of l.initial.dest l.plan.count l.plan.zones 0 l.dest l.at l.k × (l.at ≤ 84 * l.k)
