-- `questions::ask_slot` meets its contract.
use Rattle.base.proofs.Prelude.{refl}
use Rattle.refusal.proofs.Asked.{number_on, number_ne0, last_number}
use Rattle.modes.specs.{Setup.alone, Question.is_slot}
use Rattle.questions.specs.Model.{slot_refusal_at}
use Rattle.lengths.proofs.Refusal.{mask_no, mask_then}
use Rattle.questions.proofs.ask_slot.Goals as goal

pub returns-in_err-ask_mask : goal.returns-in_err-ask_mask
unfolding slot_refusal_at is_slot
returns-in_err-ask_mask c = number_on _ _ c.from_residual.ensures.1 _ (mask_no (alone c.args.setup) _ _ c.in_err-ask_mask.ensures _ (number_ne0 _))

pub returns : goal.returns
unfolding slot_refusal_at is_slot
returns c = mask_then (alone c.args.setup) _ 0 c.in_ok-ask_mask.ensures _ refl _ (last_number _ _ refl _ c.ask.ensures)
