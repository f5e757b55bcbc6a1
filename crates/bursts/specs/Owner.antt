-- Document 02, wish 7: "for a slot and subchannel the first and only owner, or none", and the row of the owners of one slot.
use Rattle.std.specs.Prelude.{List, ℕ, Option, Some, None, Result, Ok, Err}
use Rattle.base.specs.Choice.{pick}
use Rattle.base.specs.Answer.{Answer, accepted, refused, ask}
use Rattle.base.specs.Tabulate.{tabulate}
use Rattle.refusal.specs.declared.Refusal.{Refusal}
use Rattle.refusal.specs.Refusal.{number_of}
use Rattle.modes.specs.Question.{is_slot, is_subchannel}
use Rattle.zone.specs.declared.Zone.{Zone}
use Rattle.zone.specs.Zone.{setup_of, ask_fields}
use Rattle.burst_owner.specs.declared.Owned.{Owned}
use Rattle.burst_owner.specs.Owner.{no_owner, owner_number, owner_at, looked_at}
use Rattle.bursts.specs.declared.OwnerRow.{OwnerRow}
use Rattle.bursts.specs.Burst.{ask_bursts}

-- "Then 4 and 5 where a slot or subchannel is given": they come between the zone's questions and the list's.
abbrev pub ask_owner : {A : Type 0} → (size : ℕ) (zone : Zone) (slot subchannel : ℕ) (numbers : List ℕ) (rest : Answer A) → Answer A
ask_owner size zone slot subchannel numbers rest =
    ask_fields size zone
    (ask (is_slot slot) 4
    (ask (is_subchannel (setup_of size zone) subchannel) 5
    (ask_bursts size zone numbers rest)))

-- What asking for an owner answers: document 01's number, 0 where the request is accepted; the owner's position in the list; and how many bursts were looked at.
pub record OwnerAnswer : Type 0 where
  pub refusal : ℕ
  pub owner : ℕ
  pub looked : ℕ

-- What an answer of `owner` says. A refusal has no owner, and has looked at none.
abbrev pub owner_said : (answer : Result Owned Refusal) → OwnerAnswer
owner_said (Ok found) = record { refusal = 0; owner = owner_number found.owner; looked = found.looked }
owner_said (Err refusal) = record { refusal = number_of refusal; owner = no_owner; looked = 0 }

abbrev pub owned : (owner looked : ℕ) (answer : Answer (Unit {0})) → OwnerAnswer
owned owner looked (accepted tt) = record { refusal = 0; owner = owner; looked = looked }
owned owner looked (refused number) = record { refusal = number; owner = no_owner; looked = 0 }

unfoldable pub owner_of : (size : ℕ) (zone : Zone) (slot subchannel : ℕ) (numbers : List ℕ) → OwnerAnswer
owner_of size zone slot subchannel numbers = owned (owner_at numbers slot subchannel) (looked_at numbers slot subchannel) (ask_owner size zone slot subchannel numbers (accepted tt))

-- The row: "the owner of each of the up to 192 subchannels of one slot", "64 for none and past the mode's last".
unfoldable pub row_at : (size : ℕ) (zone : Zone) (slot : ℕ) (numbers : List ℕ) (subchannel : ℕ) → ℕ
row_at size zone slot numbers subchannel = pick (is_subchannel (setup_of size zone) subchannel) (owner_at numbers slot subchannel) no_owner

abbrev pub ask_owners : {A : Type 0} → (size : ℕ) (zone : Zone) (slot : ℕ) (numbers : List ℕ) (rest : Answer A) → Answer A
ask_owners size zone slot numbers rest =
    ask_fields size zone
    (ask (is_slot slot) 4
    (ask_bursts size zone numbers rest))

-- What asking for a slot's owners answers: document 01's number, 0 where the request is accepted, and the row.
pub record RowAnswer : Type 0 where
  pub refusal : ℕ
  pub owners : List ℕ

-- What an answer of `owners` says, which has a row with a refusal too.
abbrev pub number_told : (refusal : Option Refusal) → ℕ
number_told None = 0
number_told (Some refusal) = number_of refusal

abbrev pub row_given : (answer : OwnerRow) → RowAnswer
row_given answer = record { refusal = number_told answer.refusal; owners = answer.owners }

-- "A refusal's row is all 64."
abbrev pub owner_row : (row : ℕ → ℕ) (answer : Answer (Unit {0})) → RowAnswer
owner_row row (accepted tt) = record { refusal = 0; owners = tabulate 192 row }
owner_row row (refused number) = record { refusal = number; owners = tabulate 192 (λ s. no_owner) }

unfoldable pub owners_of : (size : ℕ) (zone : Zone) (slot : ℕ) (numbers : List ℕ) → RowAnswer
owners_of size zone slot numbers = owner_row (row_at size zone slot numbers) (ask_owners size zone slot numbers (accepted tt))
