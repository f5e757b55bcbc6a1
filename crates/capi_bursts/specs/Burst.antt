-- The outcome of `bp_burst_owner` and `bp_burst_owners`: the returned number and every out parameter as it is then. That of `bp_bursts_check` is the number alone.
use Rattle.std.specs.Prelude.{List, ℕ, eqb}
use Rattle.base.specs.Choice.{pick}
use Rattle.bursts.specs.Owner.{OwnerAnswer, RowAnswer}
use Rattle.c_boundary.specs.Row.{RowOut, row_out}

pub record OwnerOut : Type 0 where
  pub refusal : ℕ
  pub owner : ℕ
  pub looked : ℕ

-- 0 with the owner and how many were looked at, or the refusal's number and both parameters as they were
unfoldable pub owner_out : (answer : OwnerAnswer) (owner looked : ℕ) → OwnerOut
owner_out answer owner looked =
    pick (eqb answer.refusal 0)
    (record { refusal = 0; owner = answer.owner; looked = answer.looked })
    (record { refusal = answer.refusal; owner = owner; looked = looked })

-- 0 with the row, or the refusal's number and the caller's row as it was
abbrev pub owners_out : (answer : RowAnswer) (owners : List ℕ) → RowOut
owners_out answer owners = row_out answer.refusal answer.owners owners
