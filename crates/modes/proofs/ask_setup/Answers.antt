-- `modes::ask_setup` meets its contract.
use Rattle.base.proofs.{Prelude.rules, Test.told_yes}
use Rattle.refusal.proofs.Asked.{asked_yes, asked_number}
use Rattle.modes.specs.{Setup.alone, Question.{is_mode, is_cell}, Model.refusal_at}
use Rattle.modes.proofs.{Accept.{size_most}}
use Rattle.modes.proofs.ask_setup.Goals as goal

pub cells-requires : goal.cells-requires
cells-requires c = size_most (alone c.args.setup) (told_yes _ c.is_size.ensures (asked_yes _ _ _ c.in_ok-ask-2.ensures))

pub returns-in_err-ask : goal.returns-in_err-ask
unfolding refusal_at is_mode is_cell
returns-in_err-ask c = search (asked_number, rules)

pub returns-in_err-ask-2 : goal.returns-in_err-ask-2
unfolding refusal_at is_mode is_cell
returns-in_err-ask-2 c = search (asked_number, rules)

pub returns : goal.returns
unfolding refusal_at is_mode is_cell
returns c = search (asked_number, rules)
