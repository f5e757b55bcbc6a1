-- Document 01, "The questions put to a request, in order", with document 02's 17, put after 3 in calls.
use Rattle.std.specs.Prelude.{ℕ}
use Rattle.base.specs.Answer.{Answer, ask}
use Rattle.modes.specs.Setup.{Setup}
use Rattle.modes.specs.Question.{ask_setup}
use Rattle.mask.specs.Mask.{is_mask}

-- the questions that ground, lay, empty and look put first: 1, 2, 3 and 17
abbrev pub ask_mask : {A : Type 0} → (setup : Setup) (mask : ℕ) (rest : Answer A) → Answer A
ask_mask setup mask rest = ask_setup setup (ask (is_mask setup.mode mask) 17 rest)
