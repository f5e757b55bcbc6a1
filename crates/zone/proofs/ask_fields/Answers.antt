-- `zone::ask_fields` meets its contract.
use Rattle.base.proofs.Prelude.{rules}
use Rattle.refusal.proofs.Asked.{asked_number}
use Rattle.modes.proofs.Outcome.{setup_no, setup_then}
use Rattle.zone.proofs.Number.{fields_uplink, fields_other}
use Rattle.zone.proofs.ask_fields.Goals as goal

pub returns-in_err-ask : goal.returns-in_err-ask
returns-in_err-ask c = search (fields_uplink, asked_number, rules)

pub returns-in_err-ask_setup : goal.returns-in_err-ask_setup
returns-in_err-ask_setup c = search (fields_other, setup_no, asked_number, rules)

pub returns-in_err-ask-2 : goal.returns-in_err-ask-2
returns-in_err-ask-2 c = search (fields_other, setup_then, asked_number, rules)

pub returns : goal.returns
returns c = search (fields_other, setup_then, asked_number, rules)
