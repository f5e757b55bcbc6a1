-- Document 02, wish 7: a data region, a rectangle of subchannels by slots in one zone.
use Rattle.std.specs.Prelude.{Bool, false, List, ℕ, ◌+◌, ◌*◌, ltb, leb}
use Rattle.base.specs.Choice.{pick}
use Rattle.base.specs.Steps.{entry}
use Rattle.burst.specs.declared.Burst.{Burst}

-- The burst at a position of the list is four numbers of it: "(first subchannel, how many, first slot, how many)".
abbrev pub burst_at : (numbers : List ℕ) (i : ℕ) → Burst
burst_at numbers i =
    record {
      subchannel = entry numbers (4 * i);
      subchannels = entry numbers (4 * i + 1);
      slot = entry numbers (4 * i + 2);
      slots = entry numbers (4 * i + 3);
    }

-- Is a number one of a run of so many, from the first on?
unfoldable pub is_of : (first many number : ℕ) → Bool
is_of first many number = pick (leb first number) (ltb number (first + many)) false

-- Does a burst cover a subchannel in a slot? "Unlit subchannels count like lit ones": no mask is asked.
unfoldable pub is_covering : (burst : Burst) (slot subchannel : ℕ) → Bool
is_covering burst slot subchannel = pick (is_of burst.subchannel burst.subchannels subchannel) (is_of burst.slot burst.slots slot) false

-- Has a run of so many numbers at least one, and are all below the limit?
unfoldable pub is_within : (limit first many : ℕ) → Bool
is_within limit first many = pick (ltb 0 many) (leb (first + many) limit) false

-- 18 Is a burst not empty, and wholly in a zone, given the numbers after the zone's last subchannel and last slot?
unfoldable pub is_inside : (subchannel_end slot_end : ℕ) (burst : Burst) → Bool
is_inside subchannel_end slot_end burst = pick (is_within subchannel_end burst.subchannel burst.subchannels) (is_within slot_end burst.slot burst.slots) false

-- Two runs of numbers, each from its first to before its end and neither empty (18 comes before), have one in common where each starts before the other ends.
unfoldable pub is_shared : (first end first' end' : ℕ) → Bool
is_shared first end first' end' = pick (ltb first end') (ltb first' end) false

-- Two bursts overlap where they have a subchannel and a slot in common.
unfoldable pub is_overlap : (a b : Burst) → Bool
is_overlap a b =
    pick (is_shared a.subchannel (a.subchannel + a.subchannels) b.subchannel (b.subchannel + b.subchannels))
    (is_shared a.slot (a.slot + a.slots) b.slot (b.slot + b.slots)) false
