-- `lay_questions::ask_lay` meets its contract.
use Rattle.base.proofs.{Prelude.refl, Test.and_of}
use Rattle.refusal.proofs.Asked.{number_on, number_ne0, no_number, yes_number, same_below}
use Rattle.modes.specs.{Setup.{alone, lent}, Question.is_subchannel}
use Rattle.questions.specs.{Question.is_grid, Model.grid_refusal}
use Rattle.lay_questions.specs.{Question.{is_lit_subchannel, are_laid_points}, Model.lay_refusal}
use Rattle.questions.proofs.Refusal.{slot_no, slot_then, slot_ranged}
use Rattle.lay_questions.proofs.ask_lay.Goals as goal

pub ask_grid-requires : goal.ask_grid-requires
ask_grid-requires c = slot_ranged (alone c.args.setup) _ _ 0 c.in_ok-ask_slot.ensures refl

pub returns-in_err-ask_slot : goal.returns-in_err-ask_slot
unfolding lay_refusal grid_refusal is_lit_subchannel is_subchannel are_laid_points is_grid
returns-in_err-ask_slot c = number_on _ _ c.from_residual.ensures.1 _ (slot_no (lent c.args.setup c.args.pilots.now) _ _ _ c.in_err-ask_slot.ensures _ (number_ne0 _))

pub returns-in_err-ask : goal.returns-in_err-ask
unfolding lay_refusal grid_refusal is_lit_subchannel is_subchannel are_laid_points is_grid
returns-in_err-ask c = number_on _ _ c.from_residual-in_err-ask.ensures.1 _ (slot_then (lent c.args.setup c.args.pilots.now) _ _ 0 c.in_ok-ask_slot.ensures _ refl _ (no_number _ _ (and_of (same_below _ c.subchannels.ensures) c.is_lit-lit.ensures) _ _ c.in_err-ask.ensures))

pub returns-in_err-ask-2 : goal.returns-in_err-ask-2
unfolding lay_refusal grid_refusal is_lit_subchannel is_subchannel are_laid_points is_grid
returns-in_err-ask-2 c = number_on _ _ c.from_residual-in_err-ask-2.ensures.1 _ (slot_then (lent c.args.setup c.args.pilots.now) _ _ 0 c.in_ok-ask_slot.ensures _ refl _ (yes_number _ _ (and_of (same_below _ c.subchannels.ensures) c.is_lit-lit.ensures) _ _ c.in_ok-ask.ensures _ (no_number _ _ c.is_lent.ensures _ _ c.in_err-ask-2.ensures)))

pub returns-in_err-ask-3 : goal.returns-in_err-ask-3
unfolding lay_refusal grid_refusal is_lit_subchannel is_subchannel are_laid_points is_grid
returns-in_err-ask-3 c = number_on _ _ c.from_residual-in_err-ask-3.ensures.1 _ (slot_then (lent c.args.setup c.args.pilots.now) _ _ 0 c.in_ok-ask_slot.ensures _ refl _ (yes_number _ _ (and_of (same_below _ c.subchannels.ensures) c.is_lit-lit.ensures) _ _ c.in_ok-ask.ensures _ (yes_number _ _ c.is_lent.ensures _ _ c.in_ok-ask-2.ensures _ (no_number _ _ refl _ _ c.in_err-ask-3.ensures))))

pub returns : goal.returns
unfolding lay_refusal grid_refusal is_lit_subchannel is_subchannel are_laid_points is_grid
returns c = slot_then (lent c.args.setup c.args.pilots.now) _ _ 0 c.in_ok-ask_slot.ensures _ refl _ (yes_number _ _ (and_of (same_below _ c.subchannels.ensures) c.is_lit-lit.ensures) _ _ c.in_ok-ask.ensures _ (yes_number _ _ c.is_lent.ensures _ _ c.in_ok-ask-2.ensures _ (yes_number _ _ refl _ _ c.in_ok-ask-3.ensures _ (c.ask_grid.ensures))))
