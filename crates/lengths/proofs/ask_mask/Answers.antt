-- `lengths::ask_mask` meets its contract.
use Rattle.base.proofs.Prelude.{rules}
use Rattle.refusal.proofs.Asked.{asked_number}
use Rattle.lengths.specs.Model.{mask_refusal_at}
use Rattle.modes.proofs.Outcome.{setup_no, setup_then}
use Rattle.lengths.proofs.ask_mask.Goals as goal

pub returns-in_err-ask_setup : goal.returns-in_err-ask_setup
unfolding mask_refusal_at
returns-in_err-ask_setup c = search (asked_number, setup_no, rules)

pub returns : goal.returns
unfolding mask_refusal_at
returns c = search (asked_number, setup_then, rules)
