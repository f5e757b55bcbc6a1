-- The questions of ground, empty and look as a number. No reader needs this to know what the calls do.
use Rattle.std.specs.Prelude.{ℕ, ℤ}
use Rattle.base.specs.Answer.{accepted, ask, refusal_of}
use Rattle.modes.specs.Setup.{Setup, setup_with}
use Rattle.questions.specs.Question.{is_grid, ask_slot, ask_ground, ask_empty, ask_look}

-- the number of the first of questions 1, 2, 3, 17 and 4 that is answered no, 0 where none is; they do not go by what is lent
unfoldable pub slot_refusal_at : (mode size cell mask slot : ℕ) → ℕ
slot_refusal_at mode size cell mask slot = refusal_of (ask_slot {A = Unit {0}} (setup_with mode size cell) mask slot (accepted tt))

abbrev pub slot_refusal : (setup : Setup) (mask slot : ℕ) → ℕ
slot_refusal setup mask slot = slot_refusal_at setup.mode setup.size setup.cell mask slot

-- the number of question 9, which comes last in each call, where it is answered no, else 0
unfoldable pub grid_refusal : (setup : Setup) (grid : ℕ) → ℕ
grid_refusal setup grid = refusal_of (ask {A = Unit {0}} (is_grid setup grid) 9 (accepted tt))

-- the number of the first of ground's questions that is answered no, 0 where none is
unfoldable pub ground_refusal : (setup : Setup) (mask slot grid : ℕ) → ℕ
ground_refusal setup mask slot grid = refusal_of (ask_ground {A = Unit {0}} setup mask slot grid (accepted tt))

-- the number of the first of empty's questions that is answered no, 0 where none is
unfoldable pub empty_refusal : (setup : Setup) (mask slot points grid : ℕ) → ℕ
empty_refusal setup mask slot points grid = refusal_of (ask_empty {A = Unit {0}} setup mask slot points grid (accepted tt))

-- the number of the first of look's questions that is answered no, 0 where none is
unfoldable pub look_refusal : (setup : Setup) (mask symbol : ℕ) (carrier : ℤ) (grid : ℕ) → ℕ
look_refusal setup mask symbol carrier grid = refusal_of (ask_look {A = Unit {0}} setup mask symbol carrier grid (accepted tt))
