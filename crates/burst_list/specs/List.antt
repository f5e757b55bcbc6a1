-- Document 02, wish 7: a list of bursts, and the questions that are put to it.
use Rattle.std.specs.Prelude.{Bool, false, List, ℕ, zero, suc, ◌/◌, ◌%◌, eqb, leb, length}
use Rattle.base.specs.Choice.{pick}
use Rattle.base.specs.Answer.{Answer, ask}
use Rattle.base.specs.First.{is_none}
use Rattle.burst.specs.Burst.{burst_at, is_inside, is_overlap}

abbrev pub burst_count : (numbers : List ℕ) → ℕ
burst_count numbers = length numbers / 4

-- 18 Is the list one of at most 64 bursts, of four numbers each?
unfoldable pub is_list : (numbers : List ℕ) → Bool
is_list numbers = pick (eqb (length numbers % 4) 0) (leb (length numbers) 256) false

-- 19 Does the burst at a position overlap none that is earlier in the list?
unfoldable pub is_apart : (numbers : List ℕ) (i : ℕ) → Bool
is_apart numbers i = is_none (λ j. is_overlap (burst_at numbers j) (burst_at numbers i)) i

-- "Rectangles in list order, 18 before 19 for each": so many bursts are asked, from position i on.
unfoldable pub ask_each : {A : Type 0} → (subchannel_end slot_end : ℕ) (numbers : List ℕ) (many i : ℕ) (rest : Answer A) → Answer A
ask_each subchannel_end slot_end numbers zero i rest = rest
ask_each subchannel_end slot_end numbers (suc many) i rest =
    ask (is_inside subchannel_end slot_end (burst_at numbers i)) 18
    (ask (is_apart numbers i) 19
    (ask_each subchannel_end slot_end numbers many (suc i) rest))

-- "The length first": the list's own question comes before those to its bursts.
abbrev pub ask_list : {A : Type 0} → (subchannel_end slot_end : ℕ) (numbers : List ℕ) (rest : Answer A) → Answer A
ask_list subchannel_end slot_end numbers rest = ask (is_list numbers) 18 (ask_each subchannel_end slot_end numbers (burst_count numbers) 0 rest)
