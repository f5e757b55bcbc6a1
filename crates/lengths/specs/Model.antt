-- Questions 1, 2, 3 and 17 as a number. No reader needs this to know what the calls do.
use Rattle.std.specs.Prelude.{ℕ}
use Rattle.base.specs.Answer.{accepted, refusal_of}
use Rattle.modes.specs.Setup.{Setup, setup_with}
use Rattle.lengths.specs.Question.{ask_mask}

-- the number of the first of questions 1, 2, 3 and 17 that is answered no, 0 where none is; they do not go by what is lent
unfoldable pub mask_refusal_at : (mode size cell mask : ℕ) → ℕ
mask_refusal_at mode size cell mask = refusal_of (ask_mask {A = Unit {0}} (setup_with mode size cell) mask (accepted tt))

abbrev pub mask_refusal : (setup : Setup) (mask : ℕ) → ℕ
mask_refusal setup mask = mask_refusal_at setup.mode setup.size setup.cell mask
