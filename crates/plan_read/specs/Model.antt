-- What inner functions say. No reader needs this to know what the calls do.
use Rattle.std.specs.Prelude.{◌≡◌, List, ℕ, drop, Result, Ok, Err}
use Rattle.base.specs.Answer.{Answer, refused}
use Rattle.refusal.specs.declared.Refusal.{Refusal}
use Rattle.refusal.specs.Refusal.{number_of}
use Rattle.zone.specs.declared.Zone.{Zone}
use Rattle.plan.specs.declared.Plan.{Plan}
use Rattle.plan_read.specs.declared.ZoneFound.{ZoneFound}
use Rattle.plan_read.specs.Read.{read_zone}

-- What reading goes on with after an answer of `zone_at`, of the bytes that the zone was read from.
abbrev pub zone_found : (bytes : List ℕ) (answer : Result ZoneFound Refusal) (next : Zone → List ℕ → Answer Plan) → Answer Plan
zone_found bytes (Ok found) next = next found.zone (drop found.next bytes)
zone_found bytes (Err refusal) next = refused (number_of refusal)

abbrev pub ZoneAt : (bytes : List ℕ) (at : ℕ) (answer : Result ZoneFound Refusal) → Type 0
ZoneAt bytes at answer = (next : Zone → List ℕ → Answer Plan) → zone_found bytes answer next ≡ read_zone (drop at bytes) next
