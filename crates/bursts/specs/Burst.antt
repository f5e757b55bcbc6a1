-- Document 02, wish 7: the check of a list of data regions, which lie in one zone.
use Rattle.std.specs.Prelude.{List, ℕ}
use Rattle.base.specs.Answer.{Answer, accepted, refusal_of}
use Rattle.modes.specs.Mode.{subchannels}
use Rattle.zone.specs.declared.Zone.{Zone}
use Rattle.zone.specs.Zone.{setup_of, ask_fields}
use Rattle.burst_list.specs.List.{ask_list}

-- The bursts' zone has the subchannels of its mode and size, and its own slots.
abbrev pub ask_bursts : {A : Type 0} → (size : ℕ) (zone : Zone) (numbers : List ℕ) (rest : Answer A) → Answer A
ask_bursts size zone numbers rest = ask_list (subchannels (setup_of size zone)) zone.slots numbers rest

-- The check of a list: "they follow the zone's own questions as in a plan (1, 2, 3, 13, 17)". It gives the number of the first question that is answered no, or 0.
unfoldable pub check_of : (size : ℕ) (zone : Zone) (numbers : List ℕ) → ℕ
check_of size zone numbers = refusal_of (ask_fields {A = Unit {0}} size zone (ask_bursts size zone numbers (accepted tt)))
