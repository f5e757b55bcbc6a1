-- Reading a plan. Document 01, "Zone plan": count of zones, size, then mode, cell and slots of each; document 02, wish 5: the mask, a fourth value in the plan file.
-- Start with `plan_of`, near the end: the whole of reading, with its questions in order. It reads values by `read_value` and the zones by `read_zones`,
-- which reads each by `read_zone`, and that its values by `read_values`; `finish` is the last question and the plan.
use Rattle.std.specs.Prelude.{List, [], ◌∷◌, ℕ, zero, suc, eqb, length, drop, Option, Some, None}
use Rattle.base.specs.Answer.{Answer, accepted, refused, ask}
use Rattle.modes.specs.Question.{is_four_sizes}
use Rattle.value.specs.{declared.Value.Value, Value.value_of}
use Rattle.zone.specs.declared.Zone.{Zone}
use Rattle.plan.specs.declared.Plan.{Plan}
use Rattle.zone.specs.Zone.{zone_of, ask_zone}
use Rattle.plan.specs.Plan.{is_count, in_places}

-- A value at the head of the bytes: it and the bytes after it are handed on. 10 and 11 are the value's questions.
abbrev pub hand_on : {A : Type 0} → (value : Answer Value) (bytes : List ℕ) (next : ℕ → List ℕ → Answer A) → Answer A
hand_on (accepted v) bytes next = next v.value (drop v.bytes bytes)
hand_on (refused number) bytes next = refused number

abbrev pub read_value : {A : Type 0} → (bytes : List ℕ) (next : ℕ → List ℕ → Answer A) → Answer A
read_value bytes next = hand_on (value_of bytes) bytes next

-- So many values at the head of the bytes, one after the other.
unfoldable pub read_values : {A : Type 0} → (number : ℕ) (bytes : List ℕ) (next : List ℕ → List ℕ → Answer A) → Answer A
read_values zero bytes next = next [] bytes
read_values (suc number) bytes next =
    read_value bytes (λ value s₁.
    read_values number s₁ (λ values s₂. next (value ∷ values) s₂))

-- A zone at the head of the bytes has four values: mode, cell, slots and mask.
abbrev pub read_zone : {A : Type 0} → (bytes : List ℕ) (next : Zone → List ℕ → Answer A) → Answer A
read_zone bytes next = read_values 4 bytes (λ values s₁. next (zone_of values) s₁)

-- Zones are read one after the other, each judged after its four values.
unfoldable pub read_zones : {A : Type 0} → (count size : ℕ) (before : Option ℕ) (bytes : List ℕ) (next : List Zone → List ℕ → Answer A) → Answer A
read_zones zero size before bytes next = next [] bytes
read_zones (suc count) size before bytes next =
    read_zone bytes (λ zone s₁.
    ask_zone size before zone
    (read_zones count size (Some zone.mode) s₁ (λ zones s₂. next (zone ∷ zones) s₂)))

-- Document 01, "Zone plan": the eight zones of a plan are one value, unused places all zero.
abbrev pub plan_with : (count size : ℕ) (zones : List Zone) → Plan
plan_with count size zones = record { count = count; size = size; zones = in_places 8 zones }

-- At the end: 15 Are the bytes used up?
abbrev pub finish : (count size : ℕ) (zones : List Zone) (bytes : List ℕ) → Answer Plan
finish count size zones bytes = ask (eqb (length bytes) 0) 15 (accepted (plan_with count size zones))

-- Directly after the count: 12 Is it 1..8? Directly after the size: 2 Is it one of four? Then the zones, one after the other.
unfoldable pub plan_of : (bytes : List ℕ) → Answer Plan
plan_of bytes =
    read_value bytes (λ count s₁.
    ask (is_count count) 12
    (read_value s₁ (λ size s₂.
    ask (is_four_sizes size) 2
    (read_zones count size None s₂ (finish count size)))))

-- The plan that the answer of `read` says; with a refusal, count, size and zones all zero.
abbrev pub plan_said : (answer : Answer Plan) → Plan
plan_said (accepted plan) = plan
plan_said (refused number) = plan_with 0 0 []
