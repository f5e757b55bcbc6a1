-- `plan::ask_zones` meets its contract: the zones from one on give the number that all give.
use Rattle.std.specs.Prelude.{None}
use Rattle.base.proofs.Prelude.{◌≡◌, drop}
use Rattle.plan.specs.Model.{zones_refusal}
use Rattle.plan.proofs.ask_zones.Given as goal

abbrev pub invariant-loop-zone : goal.invariant-loop-zone
invariant-loop-zone l = zones_refusal l.fn.plan.size l.prior (drop l.zone-index l.zone-items) ≡ zones_refusal l.fn.plan.size None l.zone-items
