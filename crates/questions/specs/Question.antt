-- Document 01, "The questions put to a request, in order": 8 and 9; and the questions of ground, empty and look, with document 02's 17 and 20.
use Rattle.std.specs.Prelude.{Bool, ℕ, ◌*◌, eqb, ℤ}
use Rattle.base.specs.Answer.{Answer, ask}
use Rattle.modes.specs.Setup.{Setup}
use Rattle.modes.specs.Question.{is_slot, is_lent, ask_carrier}
use Rattle.mask.specs.Mask.{lit_subchannels}
use Rattle.lengths.specs.{Length.grid_points, Question.ask_mask}

-- 8 Are the points just 96 floats for each subchannel? Document 02, wish 5: it counts only the lit ones.
unfoldable pub are_points : (setup : Setup) (mask floats : ℕ) → Bool
are_points setup mask floats = eqb floats (96 * lit_subchannels setup mask)

-- 9 Is the grid just 2·size floats for each symbol of a slot?
unfoldable pub is_grid : (setup : Setup) (floats : ℕ) → Bool
is_grid setup floats = eqb floats (2 * grid_points setup)

-- ground, lay and empty, after 1, 2, 3 and 17: 4
abbrev pub ask_slot : {A : Type 0} → (setup : Setup) (mask slot : ℕ) (rest : Answer A) → Answer A
ask_slot setup mask slot rest = ask_mask setup mask (ask (is_slot slot) 4 rest)

-- the questions of ground: 1, 2, 3, 17, 4, 20, 9; document 02, wish 8, puts 20 after the numbers and before the lengths, here and below
abbrev pub ask_ground : {A : Type 0} → (setup : Setup) (mask slot grid : ℕ) (rest : Answer A) → Answer A
ask_ground setup mask slot grid rest =
    ask_slot setup mask slot
    (ask (is_lent setup) 20
    (ask (is_grid setup grid) 9 rest))

-- the questions of empty: 1, 2, 3, 17, 4, 20, 8, 9
abbrev pub ask_empty : {A : Type 0} → (setup : Setup) (mask slot points grid : ℕ) (rest : Answer A) → Answer A
ask_empty setup mask slot points grid rest =
    ask_slot setup mask slot
    (ask (is_lent setup) 20
    (ask (are_points setup mask points) 8
    (ask (is_grid setup grid) 9 rest)))

-- the questions of look: 1, 2, 3, 17, 4, 7, 20, 9
abbrev pub ask_look : {A : Type 0} → (setup : Setup) (mask symbol : ℕ) (carrier : ℤ) (grid : ℕ) (rest : Answer A) → Answer A
ask_look setup mask symbol carrier grid rest =
    ask_mask setup mask
    (ask_carrier setup symbol carrier
    (ask (is_lent setup) 20
    (ask (is_grid setup grid) 9 rest)))
