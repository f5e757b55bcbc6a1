-- `questions::ask_ground` meets its contract.
use Rattle.base.proofs.Prelude.{refl}
use Rattle.refusal.proofs.Asked.{number_on, number_ne0, no_number, yes_number}
use Rattle.modes.specs.{Setup.{alone, lent}}
use Rattle.questions.specs.{Question.is_grid, Model.{grid_refusal, ground_refusal}}
use Rattle.questions.proofs.Refusal.{slot_no, slot_then, slot_ranged}
use Rattle.questions.proofs.ask_ground.Goals as goal

pub ask_grid-requires : goal.ask_grid-requires
ask_grid-requires c = slot_ranged (alone c.args.setup) _ _ 0 c.in_ok-ask_slot.ensures refl

pub returns-in_err-ask_slot : goal.returns-in_err-ask_slot
unfolding ground_refusal grid_refusal is_grid
returns-in_err-ask_slot c = number_on _ _ c.from_residual.ensures.1 _ (slot_no (lent c.args.setup c.args.pilots.now) _ _ _ c.in_err-ask_slot.ensures _ (number_ne0 _))

pub returns-in_err-ask : goal.returns-in_err-ask
unfolding ground_refusal grid_refusal is_grid
returns-in_err-ask c = number_on _ _ c.from_residual-in_err-ask.ensures.1 _ (slot_then (lent c.args.setup c.args.pilots.now) _ _ 0 c.in_ok-ask_slot.ensures _ refl _ (no_number _ _ c.is_lent.ensures _ _ c.in_err-ask.ensures))

pub returns : goal.returns
unfolding ground_refusal grid_refusal is_grid
returns c = slot_then (lent c.args.setup c.args.pilots.now) _ _ 0 c.in_ok-ask_slot.ensures _ refl _ (yes_number _ _ c.is_lent.ensures _ _ c.in_ok-ask.ensures _ (c.ask_grid.ensures))
