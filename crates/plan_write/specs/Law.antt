-- What is proved of reading and writing together, of the zone that opens a plan, and of how many bytes there are. `plan_law` of proofs/Law.antt is the proof.
use Rattle.std.specs.Prelude.{◌≡◌, List, ℕ, ◌≤◌, length, take, get_or}
use Rattle.base.specs.Answer.{accepted}
use Rattle.value.specs.Value.{Bytes}
use Rattle.zone.specs.Zone.{unused}
use Rattle.plan.specs.declared.Plan.{Plan}
use Rattle.plan_read.specs.Read.{plan_of}
use Rattle.plan_write.specs.Write.{over, write_of}

-- A plan's zones are an array of eight places.
abbrev pub Eight : (plan : Plan) → Type 0
Eight plan = length plan.zones ≡ 8

pub record PlanLaw : Type 0 where
  -- An accepted plan written again is the same bytes, where the destination is long enough; further bytes stay.
  pub same_bytes : (s : List ℕ) (plan : Plan) (dest : List ℕ) → Bytes s → plan_of s ≡ accepted plan → length s ≤ length dest
      → write_of plan dest ≡ record { answer = accepted (length s); dest = over s dest }
  -- A written plan read again is the same plan.
  pub same_plan : (plan : Plan) (dest after : List ℕ) (n : ℕ) → Eight plan → write_of plan dest ≡ record { answer = accepted n; dest = after }
      → plan_of (take n after) ≡ accepted plan
  -- No two accepted byte strings are one plan.
  pub one_string : (s t : List ℕ) (plan : Plan) → Bytes s → Bytes t → plan_of s ≡ accepted plan → plan_of t ≡ accepted plan → s ≡ t
  -- No two plans are one byte string.
  pub one_plan : (p q : Plan) (d₁ d₂ after₁ after₂ : List ℕ) (n₁ n₂ : ℕ) → Eight p → Eight q
      → write_of p d₁ ≡ record { answer = accepted n₁; dest = after₁ } → write_of q d₂ ≡ record { answer = accepted n₂; dest = after₂ }
      → take n₁ after₁ ≡ take n₂ after₂ → p ≡ q
  -- Document 02, wish 8: question 14 keeps its words, so mode 7 never opens a plan.
  pub never_opens : (s : List ℕ) (plan : Plan) → plan_of s ≡ accepted plan → (get_or plan.zones 0 unused).mode ≡ 7 → ⊥
  -- An accepted plan has at most 51 bytes.
  pub at_most_51 : (s : List ℕ) (plan : Plan) → plan_of s ≡ accepted plan → length s ≤ 51
  -- Reading looks at 102 bytes at most: they decide the answer, whatever follows them.
  pub first_102_decide : (s : List ℕ) → plan_of (take 102 s) ≡ plan_of s
  -- The first 128 bytes, which the program `zones` reads, decide it too.
  pub first_128_decide : (s : List ℕ) → plan_of (take 128 s) ≡ plan_of s
