-- `plan::ask_plan` meets its contract.
use Rattle.base.proofs.{Prelude.{rules}, Test.told_yes}
use Rattle.refusal.proofs.Asked.{asked_yes, asked_number}
use Rattle.plan.specs.Model.{zones_refusal, plan_refusal}
use Rattle.plan.proofs.Judge.{count_most}
use Rattle.plan.proofs.ask_plan.Goals as goal

pub ask_zones-requires : goal.ask_zones-requires
ask_zones-requires c = count_most _ (told_yes _ c.is_up_to.ensures (asked_yes _ 12 _ c.in_ok-ask.ensures))

pub returns-in_err-ask : goal.returns-in_err-ask
unfolding plan_refusal
returns-in_err-ask c = search (asked_number, rules)

pub returns-in_err-ask-2 : goal.returns-in_err-ask-2
unfolding plan_refusal
returns-in_err-ask-2 c = search (asked_number, rules)

pub returns-in_err-ask-3 : goal.returns-in_err-ask-3
unfolding plan_refusal
returns-in_err-ask-3 c = search (asked_number, rules)

pub returns : goal.returns
unfolding plan_refusal zones_refusal
returns c = search (asked_number, rules)
