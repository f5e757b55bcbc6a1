-- `map::place` meets its contract.
use Rattle.base.proofs.Prelude.{refl, rules, ltb-true}
use Rattle.refusal.proofs.Asked.{asked_yes, asked, no_asked}
use Rattle.modes.specs.Setup.{lent, alone}
use Rattle.modes.specs.Question.{is_slot, is_subchannel, is_index}
use Rattle.map.specs.Place.{place_of}
use Rattle.modes.proofs.{Outcome.{now_valid, refuses, lets_pass}}
use Rattle.map.proofs.Outcome.{placed_on, place_done, spot_asks, subchannel_in}
use Rattle.map.proofs.place.Goals as goal

pub returns-in_err-ask_setup : goal.returns-in_err-ask_setup
unfolding place_of is_slot is_subchannel is_index
returns-in_err-ask_setup c = search (placed_on, refuses, rules)

pub returns-in_err-ask : goal.returns-in_err-ask
unfolding place_of is_slot is_subchannel is_index
returns-in_err-ask c = placed_on _ _ c.from_residual-in_err-ask.ensures.1 _ (lets_pass (lent c.args.setup c.args.pilots.now) _ c.in_ok-ask_setup.ensures _ (no_asked _ _ refl _ _ c.in_err-ask.ensures))

pub returns-in_err-ask-2 : goal.returns-in_err-ask-2
unfolding place_of is_slot is_subchannel is_index
returns-in_err-ask-2 c = placed_on _ _ c.from_residual-in_err-ask-2.ensures.1 _ (lets_pass (lent c.args.setup c.args.pilots.now) _ c.in_ok-ask_setup.ensures _ (search (asked, rules)))

pub returns-in_err-ask-3 : goal.returns-in_err-ask-3
unfolding place_of is_slot is_subchannel is_index
returns-in_err-ask-3 c = search (placed_on, lets_pass, asked, rules)

pub returns-in_err-ask-4 : goal.returns-in_err-ask-4
unfolding place_of is_slot is_subchannel is_index
returns-in_err-ask-4 c = search (placed_on, lets_pass, asked, rules)

pub spot-spot-requires : goal.spot-spot-requires
spot-spot-requires c =
    record {
      valid = now_valid (lent c.args.setup c.args.pilots.now) c.in_ok-ask_setup.ensures _ c.is_lent.ensures _ c.in_ok-ask-4.ensures;
      slot_bound = (ltb-true c.args.slot 512 (asked_yes _ _ _ c.in_ok-ask.ensures), subchannel_in (alone c.args.setup) 0 _ 0 _ c.subchannels.ensures (ltb-true c.args.subchannel c.subchannels.result (asked_yes _ _ _ c.in_ok-ask-2.ensures)), ltb-true c.args.index 48 (asked_yes _ _ _ c.in_ok-ask-3.ensures));
    }

pub at-requires : goal.at-requires
at-requires c =
    let asks =
    spot_asks _ _ _ _ c.spot-spot.result (now_valid (lent c.args.setup c.args.pilots.now) c.in_ok-ask_setup.ensures _ c.is_lent.ensures _ c.in_ok-ask-4.ensures) (ltb-true c.args.slot 512 (asked_yes _ _ _ c.in_ok-ask.ensures))
    (subchannel_in (alone c.args.setup) 0 _ 0 _ c.subchannels.ensures (ltb-true c.args.subchannel c.subchannels.result (asked_yes _ _ _ c.in_ok-ask-2.ensures))) (ltb-true c.args.index 48 (asked_yes _ _ _ c.in_ok-ask-3.ensures)) c.spot-spot.ensures in
    record { ranged = asks.0; slot_bound = asks.1 }

pub returns : goal.returns
returns c =
    place_done _ _ _ _ (now_valid (lent c.args.setup c.args.pilots.now) c.in_ok-ask_setup.ensures _ c.is_lent.ensures _ c.in_ok-ask-4.ensures) (ltb-true c.args.slot 512 (asked_yes _ _ _ c.in_ok-ask.ensures))
    (subchannel_in (alone c.args.setup) 0 _ 0 _ c.subchannels.ensures (ltb-true c.args.subchannel c.subchannels.result (asked_yes _ _ _ c.in_ok-ask-2.ensures))) (ltb-true c.args.index 48 (asked_yes _ _ _ c.in_ok-ask-3.ensures)) _ c.spot-spot.ensures _ c.at.ensures
