-- `questions::ask_look` meets its contract.
use Rattle.base.proofs.Prelude.{refl, arith}
use Rattle.refusal.proofs.Asked.{number_on, number_ne0, no_number, yes_number, same_below_times}
use Rattle.modes.specs.{Setup.{alone, lent}, Question.is_symbol}
use Rattle.modes.proofs.{ByMode.few, Outcome.{size_few, carrier_same}}
use Rattle.questions.specs.{Question.is_grid, Model.{grid_refusal, look_refusal}}
use Rattle.lengths.proofs.Refusal.{mask_no, mask_then, mask_ranged}
use Rattle.questions.proofs.ask_look.Goals as goal

pub overflow_mul-symbols : goal.overflow_mul-symbols
overflow_mul-symbols c = omega (arith, few (mask_ranged (alone c.args.setup) _ 0 c.in_ok-ask_mask.ensures refl))

pub in_range-requires : goal.in_range-requires
in_range-requires c = omega (arith, size_few (mask_ranged (alone c.args.setup) _ 0 c.in_ok-ask_mask.ensures refl))

pub ask_grid-requires : goal.ask_grid-requires
ask_grid-requires c = mask_ranged (alone c.args.setup) _ 0 c.in_ok-ask_mask.ensures refl

pub returns-in_err-ask_mask : goal.returns-in_err-ask_mask
unfolding look_refusal grid_refusal is_symbol is_grid
returns-in_err-ask_mask c = number_on _ _ c.from_residual.ensures.1 _ (mask_no (lent c.args.setup c.args.pilots.now) _ _ c.in_err-ask_mask.ensures _ (number_ne0 _))

pub returns-in_err-ask : goal.returns-in_err-ask
unfolding look_refusal grid_refusal is_symbol is_grid
returns-in_err-ask c = number_on _ _ c.from_residual-in_err-ask.ensures.1 _ (mask_then (lent c.args.setup c.args.pilots.now) _ 0 c.in_ok-ask_mask.ensures _ refl _ (no_number _ _ (same_below_times 512 _ c.symbols.ensures) _ _ c.in_err-ask.ensures))

pub returns-in_err-ask-2 : goal.returns-in_err-ask-2
unfolding look_refusal grid_refusal is_symbol is_grid
returns-in_err-ask-2 c = number_on _ _ c.from_residual-in_err-ask-2.ensures.1 _ (mask_then (lent c.args.setup c.args.pilots.now) _ 0 c.in_ok-ask_mask.ensures _ refl _ (yes_number _ _ (same_below_times 512 _ c.symbols.ensures) _ _ c.in_ok-ask.ensures _ (no_number _ _ (carrier_same (lent c.args.setup c.args.pilots.now) _ c.ranges.carrier _ c.in_range.ensures) _ _ c.in_err-ask-2.ensures)))

pub returns-in_err-ask-3 : goal.returns-in_err-ask-3
unfolding look_refusal grid_refusal is_symbol is_grid
returns-in_err-ask-3 c = number_on _ _ c.from_residual-in_err-ask-3.ensures.1 _ (mask_then (lent c.args.setup c.args.pilots.now) _ 0 c.in_ok-ask_mask.ensures _ refl _ (yes_number _ _ (same_below_times 512 _ c.symbols.ensures) _ _ c.in_ok-ask.ensures _ (yes_number _ _ (carrier_same (lent c.args.setup c.args.pilots.now) _ c.ranges.carrier _ c.in_range.ensures) _ _ c.in_ok-ask-2.ensures _ (no_number _ _ c.is_lent.ensures _ _ c.in_err-ask-3.ensures))))

pub returns : goal.returns
unfolding look_refusal grid_refusal is_symbol is_grid
returns c = mask_then (lent c.args.setup c.args.pilots.now) _ 0 c.in_ok-ask_mask.ensures _ refl _ (yes_number _ _ (same_below_times 512 _ c.symbols.ensures) _ _ c.in_ok-ask.ensures _ (yes_number _ _ (carrier_same (lent c.args.setup c.args.pilots.now) _ c.ranges.carrier _ c.in_range.ensures) _ _ c.in_ok-ask-2.ensures _ (yes_number _ _ c.is_lent.ensures _ _ c.in_ok-ask-3.ensures _ (c.ask_grid.ensures))))
