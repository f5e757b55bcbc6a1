-- The outcome of `bp_zone_plan_read` and `bp_zone_plan_write`: the returned number and every out parameter as it is then.
use Rattle.std.specs.Prelude.{List, ℕ}
use Rattle.base.specs.Answer.{Answer, accepted, refused}
use Rattle.plan.specs.declared.Plan.{Plan}
use Rattle.plan_write.specs.Write.{AfterWrite}
use Rattle.plan_numbers.specs.Numbers.{numbers_of}

pub record ReadOut : Type 0 where
  pub refusal : ℕ
  pub count : ℕ
  pub size : ℕ
  pub zones : List ℕ

-- 0 and the plan, or the refusal's number and every parameter as it was
unfoldable pub read_out : (answer : Answer Plan) (count size : ℕ) (zones : List ℕ) → ReadOut
read_out (accepted plan) count size zones = record { refusal = 0; count = plan.count; size = plan.size; zones = numbers_of plan.zones }
read_out (refused number) count size zones = record { refusal = number; count = count; size = size; zones = zones }

pub record WriteOut : Type 0 where
  pub refusal : ℕ
  pub written : ℕ
  pub dest : List ℕ

-- 0 and the number of bytes, or the refusal's number and `written` as it was; the destination is as `write` leaves it
abbrev pub answer_out : (answer : Answer ℕ) (written : ℕ) (dest : List ℕ) → WriteOut
answer_out (accepted bytes) written dest = record { refusal = 0; written = bytes; dest = dest }
answer_out (refused number) written dest = record { refusal = number; written = written; dest = dest }

unfoldable pub write_out : (after : AfterWrite) (written : ℕ) → WriteOut
write_out after written = answer_out after.answer written after.dest
