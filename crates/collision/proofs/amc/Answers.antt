-- `collision::amc` meets its contract.
use Rattle.base.proofs.Prelude.{rules, ltb-true}
use Rattle.refusal.proofs.Asked.{asked, asked_yes}
use Rattle.modes.specs.{Mode.cells_of, Question.is_cell}
use Rattle.collision.specs.Collision.{amc_of, answer_of}
use Rattle.collision.proofs.{Outcome.{met_on, met_by}}
use Rattle.collision.proofs.amc.Goals as goal

pub returns-in_err-ask : goal.returns-in_err-ask
unfolding amc_of is_cell cells_of answer_of
returns-in_err-ask c = search (met_on, asked, rules)

pub returns-in_err-ask-2 : goal.returns-in_err-ask-2
unfolding amc_of is_cell cells_of answer_of
returns-in_err-ask-2 c = search (met_on, asked, rules)

pub amc_hits-requires : goal.amc_hits-requires
amc_hits-requires c = (ltb-true _ _ (asked_yes _ _ _ c.in_ok-ask.ensures), ltb-true _ _ (asked_yes _ _ _ c.in_ok-ask-2.ensures))

pub returns : goal.returns
unfolding amc_of is_cell cells_of
returns c = search (met_by, asked, rules)
