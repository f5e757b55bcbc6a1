-- What inner functions say. No reader needs this to know what the calls do.
use Rattle.std.specs.Prelude.{Bool, false, ◌+◌}
use Rattle.base.specs.Choice.{pick}
use Rattle.burst.specs.declared.Burst.{Burst}
use Rattle.burst.specs.declared.Edges.{Edges}
use Rattle.burst.specs.Burst.{is_shared}

-- The edges of a burst.
abbrev pub edges_of : (burst : Burst) → Edges
edges_of burst = record { start = burst.subchannel; end = burst.subchannel + burst.subchannels; slot_start = burst.slot; slot_end = burst.slot + burst.slots }

-- Two bursts overlap, by their edges.
unfoldable pub edges_overlap : (a b : Edges) → Bool
edges_overlap a b = pick (is_shared a.start a.end b.start b.end) (is_shared a.slot_start a.slot_end b.slot_start b.slot_end) false
