-- Document 01, "The questions put to a request, in order": 5 and 8 as document 02 has them where a subchannel is laid; and the questions of lay.
use Rattle.std.specs.Prelude.{Bool, false, ℕ, eqb}
use Rattle.base.specs.Choice.{pick}
use Rattle.base.specs.Answer.{Answer, ask}
use Rattle.modes.specs.Setup.{Setup}
use Rattle.modes.specs.Question.{is_subchannel, is_lent}
use Rattle.mask.specs.Mask.{is_lit}
use Rattle.questions.specs.Question.{is_grid, ask_slot}

-- 5 Is the subchannel in range? Document 02, wish 5: laying an unlit subchannel meets 5.
unfoldable pub is_lit_subchannel : (setup : Setup) (mask subchannel : ℕ) → Bool
is_lit_subchannel setup mask subchannel = pick (is_subchannel setup subchannel) (is_lit setup mask subchannel) false

-- Document 02, wish 4: where one subchannel is laid, question 8 is about 96 floats.
unfoldable pub are_laid_points : (floats : ℕ) → Bool
are_laid_points floats = eqb floats 96

-- the questions of lay: 1, 2, 3, 17, 4, 5, 20, 8, 9
abbrev pub ask_lay : {A : Type 0} → (setup : Setup) (mask slot subchannel points grid : ℕ) (rest : Answer A) → Answer A
ask_lay setup mask slot subchannel points grid rest =
    ask_slot setup mask slot
    (ask (is_lit_subchannel setup mask subchannel) 5
    (ask (is_lent setup) 20
    (ask (are_laid_points points) 8
    (ask (is_grid setup grid) 9 rest))))
