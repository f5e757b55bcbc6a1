-- `bursts::owner` meets its contract.
use Rattle.base.proofs.Prelude.{refl, rules}
use Rattle.refusal.proofs.Asked.{asked, no_asked, yes_asked, same_below}
use Rattle.modes.specs.Question.{is_slot, is_subchannel}
use Rattle.burst_list.proofs.Each.{list_most}
use Rattle.bursts.specs.Owner.{owner_of}
use Rattle.zone.proofs.Number.{fields_no, fields_then}
use Rattle.bursts.proofs.Answer.{list_asks, bursts_no, bursts_then, owned_no, owned_yes}
use Rattle.bursts.proofs.owner.Goals as goal

pub returns-in_err-ask_fields : goal.returns-in_err-ask_fields
unfolding owner_of
returns-in_err-ask_fields c = search (owned_no, fields_no, rules)

pub returns-in_err-ask : goal.returns-in_err-ask
unfolding owner_of is_slot is_subchannel
returns-in_err-ask c = search (owned_no, fields_then, asked, rules)

pub returns-in_err-ask-2-clause-said : goal.returns-in_err-ask-2-clause-said
unfolding owner_of is_slot is_subchannel
returns-in_err-ask-2-clause-said c =
    owned_no _ _ _ _ _ c.from_residual-in_err-ask-2.ensures.1
    (fields_then _ _ _ c.in_ok-ask_fields.ensures _
    (yes_asked _ _ refl _ _ c.in_ok-ask.ensures _ (no_asked _ _ (same_below _ c.subchannels-subchannels.ensures) _ _ c.in_err-ask-2.ensures)))

pub ask_list-requires : goal.ask_list-requires
ask_list-requires c = list_asks _ _ c.in_ok-ask_fields.ensures c.subchannels-subchannels.ensures

pub returns-in_err-ask_list-clause-said : goal.returns-in_err-ask_list-clause-said
unfolding owner_of is_slot is_subchannel
returns-in_err-ask_list-clause-said c =
    owned_no _ _ _ _ _ c.from_residual-in_err-ask_list.ensures.1
    (fields_then _ _ _ c.in_ok-ask_fields.ensures _
    (yes_asked _ _ refl _ _ c.in_ok-ask.ensures _
    (yes_asked _ _ (same_below _ c.subchannels-subchannels.ensures) _ _ c.in_ok-ask-2.ensures _
    (bursts_no _ c.args.zone _ _ c.subchannels-subchannels.ensures _ _ c.in_err-ask_list.ensures))))

pub first_owner-requires : goal.first_owner-requires
first_owner-requires c = list_most _ _ _ c.in_ok-ask_list.ensures

pub returns : goal.returns
unfolding owner_of is_slot is_subchannel
returns c = search (owned_yes, fields_then, bursts_then, asked, rules)
