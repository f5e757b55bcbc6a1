-- `plan_read::read` meets its contract.
use Rattle.base.proofs.{Prelude.{arith}, Test.told_yes}
use lib.{ListN.length-drop, Seq.drop-drop}
use Rattle.refusal.proofs.Asked.{answer_on, no_asked, yes_asked, asked_yes}
use Rattle.plan_read.specs.Read.{plan_of}
use Rattle.plan.proofs.Judge.{count_most}
use Rattle.plan_read.proofs.Step.{value_within}
use Rattle.plan_read.proofs.read.Goals as goal

pub returns-in_err-count : goal.returns-in_err-count
unfolding plan_of
returns-in_err-count c = answer_on _ _ c.from_residual.ensures.1 _ (rw (← c.in_err-count.ensures))

pub returns-in_err-ask : goal.returns-in_err-ask
unfolding plan_of
returns-in_err-ask c =
    answer_on _ _ c.from_residual-in_err-ask.ensures.1 _ (rw (← c.in_ok-count.ensures) (no_asked _ _ c.is_up_to.ensures _ _ c.in_err-ask.ensures))

pub returns-in_err-size : goal.returns-in_err-size
unfolding plan_of
returns-in_err-size c =
    answer_on _ _ c.from_residual-in_err-size.ensures.1 _
    (rw (← c.in_ok-count.ensures) (yes_asked _ _ c.is_up_to.ensures _ _ c.in_ok-ask.ensures _ (rw (← c.in_err-size.ensures))))

pub returns-in_err-ask-2 : goal.returns-in_err-ask-2
unfolding plan_of
returns-in_err-ask-2 c =
    answer_on _ _ c.from_residual-in_err-ask-2.ensures.1 _
    (rw (← c.in_ok-count.ensures) (yes_asked _ _ c.is_up_to.ensures _ _ c.in_ok-ask.ensures _
    (rw (← c.in_ok-size.ensures) (no_asked _ _ c.is_four_sizes.ensures _ _ c.in_err-ask-2.ensures))))

pub overflow_add-count : goal.overflow_add-count
overflow_add-count c = omega (arith, rw length-drop at (value_within _ c.in_ok-size.ensures))

pub zones_at-requires : goal.zones_at-requires
zones_at-requires c = count_most _ (told_yes _ c.is_up_to.ensures (asked_yes _ 12 _ c.in_ok-ask.ensures))

pub returns : goal.returns
unfolding plan_of
returns c =
    rw (← c.in_ok-count.ensures) (yes_asked _ _ c.is_up_to.ensures _ _ c.in_ok-ask.ensures _
    (rw (← c.in_ok-size.ensures) (yes_asked _ _ c.is_four_sizes.ensures _ _ c.in_ok-ask-2.ensures _ (rw drop-drop c.zones_at.ensures))))
