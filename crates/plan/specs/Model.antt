-- What inner functions say. No reader needs this to know what the calls do.
use Rattle.std.specs.Prelude.{List, ℕ, Option}
use Rattle.base.specs.Answer.{accepted, refusal_of}
use Rattle.zone.specs.declared.Zone.{Zone}
use Rattle.plan.specs.declared.Plan.{Plan}
use Rattle.plan.specs.Plan.{ask_zones, ask_plan}

-- The number of the first question to all zones and to a plan that is answered no, 0 where none is.
unfoldable pub zones_refusal : (size : ℕ) (before : Option ℕ) (zones : List Zone) → ℕ
zones_refusal size before zones = refusal_of (ask_zones {A = Unit {0}} size before zones (accepted tt))

unfoldable pub plan_refusal : (plan : Plan) → ℕ
plan_refusal plan = refusal_of (ask_plan {A = Unit {0}} plan (accepted tt))
