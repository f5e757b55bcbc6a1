-- The outcome of `bp_ofusc_collisions` and `bp_amc_collisions`: the returned number and both out parameters as they are then.
use Rattle.std.specs.Prelude.{Bool, List, map, ℕ, eqb}
use Rattle.base.specs.Choice.{pick}
use Rattle.collision.specs.Collision.{Meetings}

pub record CollisionOut : Type 0 where
  pub refusal : ℕ
  pub hits : List ℕ
  pub count : ℕ

-- a mark as a byte
unfoldable pub byte_of : (hit : Bool) → ℕ
byte_of hit = pick hit 1 0

-- 0 with the marks and their count, or the refusal's number and both parameters as they were
unfoldable pub collision_out : (answer : Meetings) (hits : List ℕ) (count : ℕ) → CollisionOut
collision_out answer hits count =
    pick (eqb answer.refusal 0)
    (record { refusal = 0; hits = map byte_of answer.hits; count = answer.count })
    (record { refusal = answer.refusal; hits = hits; count = count })
