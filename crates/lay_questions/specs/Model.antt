-- The questions of lay as a number. No reader needs this to know what the call does.
use Rattle.std.specs.Prelude.{ℕ}
use Rattle.base.specs.Answer.{accepted, refusal_of}
use Rattle.modes.specs.Setup.{Setup}
use Rattle.lay_questions.specs.Question.{ask_lay}

-- the number of the first of lay's questions that is answered no, 0 where none is
unfoldable pub lay_refusal : (setup : Setup) (mask slot subchannel points grid : ℕ) → ℕ
lay_refusal setup mask slot subchannel points grid = refusal_of (ask_lay {A = Unit {0}} setup mask slot subchannel points grid (accepted tt))
