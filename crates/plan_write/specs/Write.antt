-- Writing a plan. Document 01: writing puts 12, 2, for each zone in turn 1, 2, 3, 13, 14, then 16; document 02, wish 5: 17 after 13.
use Rattle.std.specs.Prelude.{List, ◌++◌, ℕ, leb, length, drop, Result}
use Rattle.base.specs.Answer.{Answer, accepted, refused, ask}
use Rattle.refusal.specs.declared.Refusal.{Refusal}
use Rattle.refusal.specs.Refusal.{answer_of}
use Rattle.value.specs.Value.{encode}
use Rattle.zone.specs.declared.Zone.{Zone}
use Rattle.zone.specs.Zone.{values_of}
use Rattle.plan.specs.declared.Plan.{Plan}
use Rattle.plan.specs.Plan.{used_zones, ask_plan, each}

-- The bytes of a plan are the count of zones, the size, then mode, cell, slots and mask of each zone.
unfoldable pub zone_bytes : (zone : Zone) → List ℕ
zone_bytes zone = each encode (values_of zone)

unfoldable pub plan_bytes : (plan : Plan) → List ℕ
plan_bytes plan = encode plan.count ++ (encode plan.size ++ each zone_bytes (used_zones plan))

-- What a call of `write` leaves: its answer and the destination.
pub record AfterWrite : Type 0 where
  pub answer : Answer ℕ
  pub dest : List ℕ

-- The bytes stand at the destination's start, and its further bytes stay.
abbrev pub over : (bytes dest : List ℕ) → List ℕ
over bytes dest = bytes ++ drop (length bytes) dest

-- Writing gives the number of bytes written; on a refusal the destination keeps its contents.
abbrev pub after_write : (answer : Answer (List ℕ)) (dest : List ℕ) → AfterWrite
after_write (accepted bytes) dest = record { answer = accepted (length bytes); dest = over bytes dest }
after_write (refused number) dest = record { answer = refused number; dest = dest }

-- 16 Is the destination long enough?
unfoldable pub write_of : (plan : Plan) (dest : List ℕ) → AfterWrite
write_of plan dest = after_write (ask_plan plan (ask (leb (length (plan_bytes plan)) (length dest)) 16 (accepted (plan_bytes plan)))) dest

-- What an answer of `write` says, with the destination that it leaves.
abbrev pub written : (answer : Result ℕ Refusal) (dest : List ℕ) → AfterWrite
written answer dest = record { answer = answer_of answer; dest = dest }
