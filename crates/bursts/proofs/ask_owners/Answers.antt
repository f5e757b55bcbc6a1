-- `bursts::ask_owners` meets its contract.
use Rattle.base.proofs.Prelude.{refl, rules}
use Rattle.refusal.proofs.Asked.{asked, answer_on, no_asked}
use Rattle.modes.specs.Question.{is_slot}
use Rattle.zone.proofs.Number.{fields_no, fields_then}
use Rattle.bursts.proofs.Answer.{list_asks, bursts_no, bursts_then}
use Rattle.bursts.proofs.ask_owners.Goals as goal

pub returns-in_err-ask_fields : goal.returns-in_err-ask_fields
returns-in_err-ask_fields c = search (fields_no, asked, rules)

pub returns-in_err-ask : goal.returns-in_err-ask
unfolding is_slot
returns-in_err-ask c = answer_on _ _ c.from_residual-in_err-ask.ensures.1 _ (fields_then _ _ _ c.in_ok-ask_fields.ensures _ (no_asked _ _ refl _ _ c.in_err-ask.ensures))

pub ask_list-requires : goal.ask_list-requires
ask_list-requires c = list_asks _ _ c.in_ok-ask_fields.ensures c.subchannels.ensures

pub returns-in_err-ask_list : goal.returns-in_err-ask_list
unfolding is_slot
returns-in_err-ask_list c = search (fields_then, bursts_no, asked, rules)

pub returns : goal.returns
unfolding is_slot
returns c = search (fields_then, bursts_then, asked, rules)
