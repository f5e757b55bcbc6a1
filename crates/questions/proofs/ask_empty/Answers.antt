-- `questions::ask_empty` meets its contract.
use Rattle.base.proofs.Prelude.{refl, arith}
use Rattle.refusal.proofs.Asked.{number_on, number_ne0, no_number, yes_number, same_times}
use Rattle.modes.specs.{Setup.{alone, lent}}
use Rattle.mask.proofs.Law.{lit_few}
use Rattle.questions.specs.{Question.{are_points, is_grid}, Model.{grid_refusal, empty_refusal}}
use Rattle.questions.proofs.Refusal.{slot_no, slot_then, slot_ranged, slot_now_few}
use Rattle.questions.proofs.ask_empty.Goals as goal

pub lit_subchannels-requires : goal.lit_subchannels-requires
lit_subchannels-requires c = slot_now_few (alone c.args.setup) _ _ 0 c.in_ok-ask_slot.ensures refl

pub overflow_mul-lit_subchannels : goal.overflow_mul-lit_subchannels
overflow_mul-lit_subchannels c = omega (arith, lit_few (slot_ranged (alone c.args.setup) _ _ 0 c.in_ok-ask_slot.ensures refl) _ _ c.lit_subchannels.ensures)

pub ask_grid-requires : goal.ask_grid-requires
ask_grid-requires c = slot_ranged (alone c.args.setup) _ _ 0 c.in_ok-ask_slot.ensures refl

pub returns-in_err-ask_slot : goal.returns-in_err-ask_slot
unfolding empty_refusal grid_refusal are_points is_grid
returns-in_err-ask_slot c = number_on _ _ c.from_residual.ensures.1 _ (slot_no (lent c.args.setup c.args.pilots.now) _ _ _ c.in_err-ask_slot.ensures _ (number_ne0 _))

pub returns-in_err-ask : goal.returns-in_err-ask
unfolding empty_refusal grid_refusal are_points is_grid
returns-in_err-ask c = number_on _ _ c.from_residual-in_err-ask.ensures.1 _ (slot_then (lent c.args.setup c.args.pilots.now) _ _ 0 c.in_ok-ask_slot.ensures _ refl _ (no_number _ _ c.is_lent.ensures _ _ c.in_err-ask.ensures))

pub returns-in_err-ask-2 : goal.returns-in_err-ask-2
unfolding empty_refusal grid_refusal are_points is_grid
returns-in_err-ask-2 c = number_on _ _ c.from_residual-in_err-ask-2.ensures.1 _ (slot_then (lent c.args.setup c.args.pilots.now) _ _ 0 c.in_ok-ask_slot.ensures _ refl _ (yes_number _ _ c.is_lent.ensures _ _ c.in_ok-ask.ensures _ (no_number _ _ (same_times 96 _ c.lit_subchannels.ensures) _ _ c.in_err-ask-2.ensures)))

pub returns : goal.returns
unfolding empty_refusal grid_refusal are_points is_grid
returns c = slot_then (lent c.args.setup c.args.pilots.now) _ _ 0 c.in_ok-ask_slot.ensures _ refl _ (yes_number _ _ c.is_lent.ensures _ _ c.in_ok-ask.ensures _ (yes_number _ _ (same_times 96 _ c.lit_subchannels.ensures) _ _ c.in_ok-ask-2.ensures _ (c.ask_grid.ensures)))
