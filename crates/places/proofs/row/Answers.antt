-- `places::row` meets its contract.
use Rattle.base.proofs.Prelude.{refl, ltb-true}
use Rattle.refusal.proofs.Asked.{asked_yes, no_asked, yes_asked, same_below}
use Rattle.modes.specs.{Setup.lent, Question.{is_slot, is_subchannel}}
use Rattle.modes.proofs.Outcome.{now_valid, refuses, lets_pass}
use Rattle.places.proofs.Answer.{no_row, row_done}
use Rattle.places.proofs.row.Goals as goal

pub returns-in_err-ask_setup : goal.returns-in_err-ask_setup
unfolding is_slot is_subchannel
returns-in_err-ask_setup c = no_row _ _ _ _ _ c.from_residual.ensures.1 (refuses (lent c.args.setup c.args.pilots.now) _ _ c.in_err-ask_setup.ensures)

pub returns-in_err-ask : goal.returns-in_err-ask
unfolding is_slot is_subchannel
returns-in_err-ask c =
    no_row _ _ _ _ _ c.from_residual-in_err-ask.ensures.1
    (lets_pass (lent c.args.setup c.args.pilots.now) _ c.in_ok-ask_setup.ensures _ (no_asked _ _ refl _ _ c.in_err-ask.ensures))

pub returns-in_err-ask-2 : goal.returns-in_err-ask-2
unfolding is_slot is_subchannel
returns-in_err-ask-2 c =
    no_row _ _ _ _ _ c.from_residual-in_err-ask-2.ensures.1
    (lets_pass (lent c.args.setup c.args.pilots.now) _ c.in_ok-ask_setup.ensures _ (yes_asked _ _ refl _ _ c.in_ok-ask.ensures _ (no_asked _ _ (same_below _ c.subchannels.ensures) _ _ c.in_err-ask-2.ensures)))

pub returns-in_err-ask-3 : goal.returns-in_err-ask-3
unfolding is_slot is_subchannel
returns-in_err-ask-3 c =
    no_row _ _ _ _ _ c.from_residual-in_err-ask-3.ensures.1
    (lets_pass (lent c.args.setup c.args.pilots.now) _ c.in_ok-ask_setup.ensures _ (yes_asked _ _ refl _ _ c.in_ok-ask.ensures _ (yes_asked _ _ (same_below _ c.subchannels.ensures) _ _ c.in_ok-ask-2.ensures _ (no_asked _ _ c.is_lent.ensures _ _ c.in_err-ask-3.ensures))))

pub subchannel_row-row-requires : goal.subchannel_row-row-requires
subchannel_row-row-requires c = record { valid = now_valid (lent c.args.setup c.args.pilots.now) c.in_ok-ask_setup.ensures _ c.is_lent.ensures _ c.in_ok-ask-3.ensures; subchannel_bound = rw (← c.subchannels.ensures) (ltb-true c.args.subchannel c.subchannels.result (asked_yes _ _ _ c.in_ok-ask-2.ensures)) }

pub in_order-requires : goal.in_order-requires
in_order-requires c = c.subchannel_row-row.ensures.0

pub returns : goal.returns
returns c =
    let row = c.subchannel_row-row in
    row_done _ _ _ (now_valid (lent c.args.setup c.args.pilots.now) c.in_ok-ask_setup.ensures _ c.is_lent.ensures _ c.in_ok-ask-3.ensures) (ltb-true c.args.slot 512 (asked_yes _ _ _ c.in_ok-ask.ensures)) (rw (← c.subchannels.ensures) (ltb-true c.args.subchannel c.subchannels.result (asked_yes _ _ _ c.in_ok-ask-2.ensures))) row.result row.ensures _ c.in_order.ensures
