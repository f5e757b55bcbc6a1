-- Document 02, wish 7: "for a slot and subchannel the first and only owner, or none", in a list of bursts.
use Rattle.std.specs.Prelude.{List, ℕ, ◌+◌, ◌<◌, ltb, Option, Some, None}
use Rattle.base.specs.Choice.{pick}
use Rattle.base.specs.First.{first_of}
use Rattle.burst.specs.Burst.{burst_at, is_covering}
use Rattle.burst_list.specs.List.{burst_count}

-- The position of the first burst that covers a subchannel in a slot; past the last where none does.
abbrev pub position : (numbers : List ℕ) (slot subchannel : ℕ) → ℕ
position numbers slot subchannel = first_of (λ i. is_covering (burst_at numbers i) slot subchannel) (burst_count numbers)

-- No owner is told as "64 for none".
abbrev pub no_owner : ℕ
no_owner = 64

abbrev pub owner_number : (owner : Option ℕ) → ℕ
owner_number None = no_owner
owner_number (Some i) = i

-- An owner is a burst of the list.
abbrev pub IsOwner : (numbers : List ℕ) (owner : Option ℕ) → Type 0
IsOwner numbers None = Unit {0}
IsOwner numbers (Some i) = i < burst_count numbers

-- One value where a subchannel in a slot has an owner, and another where it has none.
abbrev pub by_owner : (numbers : List ℕ) (slot subchannel some none : ℕ) → ℕ
by_owner numbers slot subchannel some none = pick (ltb (position numbers slot subchannel) (burst_count numbers)) some none

-- The owner is told by its position in the list.
unfoldable pub owner_at : (numbers : List ℕ) (slot subchannel : ℕ) → ℕ
owner_at numbers slot subchannel = by_owner numbers slot subchannel (position numbers slot subchannel) no_owner

-- "How many rectangles were looked at: the owner's position plus 1, or the length of the list if there is none."
unfoldable pub looked_at : (numbers : List ℕ) (slot subchannel : ℕ) → ℕ
looked_at numbers slot subchannel = by_owner numbers slot subchannel (position numbers slot subchannel + 1) (burst_count numbers)
