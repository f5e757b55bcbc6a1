-- What inner functions say. No reader needs this to know what the calls do.
use Rattle.std.specs.Prelude.{List, ℕ}
use Rattle.base.specs.Answer.{accepted, refusal_of}
use Rattle.base.specs.Steps.{entry}
use Rattle.burst.specs.declared.Edges.{Edges}
use Rattle.burst_list.specs.List.{ask_list}

-- The number of the first question to a list that is answered no, or 0.
unfoldable pub list_refusal : (subchannel_end slot_end : ℕ) (numbers : List ℕ) → ℕ
list_refusal subchannel_end slot_end numbers = refusal_of (ask_list {A = Unit {0}} subchannel_end slot_end numbers (accepted tt))

-- The edges of the bursts stand in four columns; these are those of the burst at a position.
abbrev pub edges_at : (starts ends slot_starts slot_ends : List ℕ) (i : ℕ) → Edges
edges_at starts ends slot_starts slot_ends i = record { start = entry starts i; end = entry ends i; slot_start = entry slot_starts i; slot_end = entry slot_ends i }
