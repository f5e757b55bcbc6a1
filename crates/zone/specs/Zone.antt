-- A zone, and the questions that are put to it in a plan.
use Rattle.std.specs.Prelude.{Bool, true, false, List, [], ◌∷◌, ℕ, eqb, ltb, get_or, Option, Some, None}
use Rattle.base.specs.Choice.{pick, is_up_to}
use Rattle.base.specs.Answer.{Answer, accepted, ask, refusal_of}
use Rattle.modes.specs.Setup.{Setup, setup_with}
use Rattle.modes.specs.Mode.{is_amc}
use Rattle.modes.specs.Question.{is_size, is_cell}
use Rattle.mask.specs.Mask.{is_mask}
use Rattle.zone.specs.declared.Zone.{Zone}

-- The values of a zone in the order of the plan file. Document 01, "Zone plan": mode, cell and slots; document 02, wish 5: the mask, a fourth value.
abbrev pub values_of : (zone : Zone) → List ℕ
values_of zone = zone.mode ∷ zone.cell ∷ zone.slots ∷ zone.mask ∷ []

-- The zone of values in that order.
abbrev pub zone_of : (values : List ℕ) → Zone
zone_of values = record { mode = get_or values 0 0; cell = get_or values 1 0; slots = get_or values 2 0; mask = get_or values 3 0 }

-- 1 Is the mode 0, 2, one of AMC's, 3 to 6 (document 02, wish 2), or FUSC's, 7 (document 02, wish 8: a plan's question 1 takes it)? That is every listed mode but 1.
unfoldable pub is_zone_mode : (mode : ℕ) → Bool
is_zone_mode mode = pick (eqb mode 1) false (ltb mode 8)

-- Questions 2 and 3 are the map's, of the zone's mode and cell and the plan's size.
abbrev pub setup_of : (size : ℕ) (zone : Zone) → Setup
setup_of size zone = setup_with zone.mode size zone.cell

-- 13 Are slots 1..512?
abbrev pub is_slots : (slots : ℕ) → Bool
is_slots slots = is_up_to 512 slots

-- 14 At 2048, is the first zone mode 0? Its cell is the preamble's, any of mode 0's (document 02, wish 1). Mode 7 never opens a plan, since it has no other size (wish 8).
unfoldable pub is_opening : (size : ℕ) (zone : Zone) → Bool
is_opening size zone = pick (eqb size 2048) (eqb zone.mode 0) true

-- 14 At every size, does nothing but AMC follow AMC (document 01: mode 3; document 02, wish 2: any of 3 to 6)?
unfoldable pub is_following : (mode : ℕ) (zone : Zone) → Bool
is_following mode zone = pick (is_amc mode) (is_amc zone.mode) true

-- 14 goes by what stands before the zone: none, where it is the plan's first, or a zone of some mode.
abbrev pub is_order : (before : Option ℕ) (size : ℕ) (zone : Zone) → Bool
is_order None size zone = is_opening size zone
is_order (Some mode) size zone = is_following mode zone

-- The questions to a zone's own values. Document 02, wish 5: refused 17, mask out of its range, put after 13 in plans.
abbrev pub ask_fields : {A : Type 0} → (size : ℕ) (zone : Zone) (rest : Answer A) → Answer A
ask_fields size zone rest =
    ask (is_zone_mode zone.mode) 1
    (ask (is_size (setup_of size zone)) 2
    (ask (is_cell (setup_of size zone)) 3
    (ask (is_slots zone.slots) 13
    (ask (is_mask zone.mode zone.mask) 17 rest))))

-- The number of the first question to a zone's own values that is answered no, 0 where none is.
unfoldable pub fields_refusal : (size : ℕ) (zone : Zone) → ℕ
fields_refusal size zone = refusal_of (ask_fields {A = Unit {0}} size zone (accepted tt))

-- In a plan the question of a zone's place comes after those to its own values.
abbrev pub ask_zone : {A : Type 0} → (size : ℕ) (before : Option ℕ) (zone : Zone) (rest : Answer A) → Answer A
ask_zone size before zone rest = ask_fields size zone (ask (is_order before size zone) 14 rest)

-- An unused place of a plan.
abbrev pub unused : Zone
unused = record { mode = 0; cell = 0; slots = 0; mask = 0 }

-- 12, in writing: is a place past the count zero?
unfoldable pub is_unused : (zone : Zone) → Bool
is_unused zone = pick (eqb zone.mode 0) (pick (eqb zone.cell 0) (pick (eqb zone.slots 0) (eqb zone.mask 0) false) false) false
