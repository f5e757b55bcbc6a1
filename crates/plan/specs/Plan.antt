-- A plan's places, and the questions that are put to a plan in writing; reading puts them one by one.
use Rattle.std.specs.Prelude.{Bool, true, false, List, [], ◌∷◌, ◌++◌, ℕ, zero, suc, take, drop, Option, Some, None}
use Rattle.base.specs.Choice.{pick, is_up_to}
use Rattle.base.specs.Answer.{Answer, ask}
use Rattle.modes.specs.Question.{is_four_sizes}
use Rattle.zone.specs.declared.Zone.{Zone}
use Rattle.zone.specs.Zone.{ask_zone, unused, is_unused}
use Rattle.plan.specs.declared.Plan.{Plan}

-- 12 Is the count 1..8?
abbrev pub is_count : (count : ℕ) → Bool
is_count count = is_up_to 8 count

-- The zones of a plan in so many places, unused places all zero.
unfoldable pub in_places : (places : ℕ) (zones : List Zone) → List Zone
in_places zero zones = []
in_places (suc places) [] = unused ∷ in_places places []
in_places (suc places) (zone ∷ zones) = zone ∷ in_places places zones

-- What each of a list gives, one behind the other.
unfoldable pub each : {A : Type 0} → (part : A → List ℕ) (list : List A) → List ℕ
each part [] = []
each part (one ∷ list) = part one ++ each part list

-- 12, in writing: is every place past the count zero?
unfoldable pub are_unused : (zones : List Zone) → Bool
are_unused [] = true
are_unused (zone ∷ zones) = pick (is_unused zone) (are_unused zones) false

abbrev pub used_zones : (plan : Plan) → List Zone
used_zones plan = take plan.count plan.zones

-- Each zone in turn is asked 1, 2, 3, 13, 17 and 14.
unfoldable pub ask_zones : {A : Type 0} → (size : ℕ) (before : Option ℕ) (zones : List Zone) (rest : Answer A) → Answer A
ask_zones size before [] rest = rest
ask_zones size before (zone ∷ zones) rest = ask_zone size before zone (ask_zones size (Some zone.mode) zones rest)

abbrev pub ask_plan : {A : Type 0} → (plan : Plan) (rest : Answer A) → Answer A
ask_plan plan rest =
    ask (is_count plan.count) 12
    (ask (are_unused (drop plan.count plan.zones)) 12
    (ask (is_four_sizes plan.size) 2
    (ask_zones plan.size None (used_zones plan) rest)))
