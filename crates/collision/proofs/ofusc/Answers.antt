-- `collision::ofusc` meets its contract.
use Rattle.base.proofs.{Prelude.{arith, rules, ltb-true}}
use Rattle.refusal.proofs.Asked.{asked, asked_yes}
use Rattle.modes.specs.{Mode.{width_of, cells_of, subchannels_of}, Question.{is_cell, is_subchannel}}
use Rattle.collision.specs.Collision.{ofusc_of, answer_of}
use Rattle.collision.proofs.Outcome.{asked_wide, met_on, met_by, same_size}
use Rattle.collision.proofs.ofusc.Goals as goal

pub overflow_mul-n : goal.overflow_mul-n
overflow_mul-n c = omega (arith, (asked_wide _ _ c.is_four_sizes.ensures _ c.in_ok-ask.ensures).few)

pub overflow_mul-n-2 : goal.overflow_mul-n-2
overflow_mul-n-2 c = omega (arith, (asked_wide _ _ c.is_four_sizes.ensures _ c.in_ok-ask.ensures).few)

pub invariant_of-width : goal.invariant_of-width
invariant_of-width c = record { is_width = (asked_wide _ _ c.is_four_sizes.ensures _ c.in_ok-ask.ensures).is_width }

pub ofusc_hits-requires : goal.ofusc_hits-requires
ofusc_hits-requires c =
    record {
      cell_a_bound = (ltb-true _ _ (asked_yes _ _ _ c.in_ok-ask-2.ensures), ltb-true _ _ (asked_yes _ _ _ c.in_ok-ask-3.ensures));
      a_lt_n = (ltb-true _ _ (asked_yes _ _ _ c.in_ok-ask-4.ensures), ltb-true _ _ (asked_yes _ _ _ c.in_ok-ask-5.ensures));
    }

pub returns-in_err-ask : goal.returns-in_err-ask
unfolding ofusc_of is_cell is_subchannel cells_of subchannels_of width_of answer_of
returns-in_err-ask c = search (met_on, asked, rules)

pub returns-in_err-ask-2 : goal.returns-in_err-ask-2
unfolding ofusc_of is_cell is_subchannel cells_of subchannels_of width_of answer_of
returns-in_err-ask-2 c = search (met_on, asked, rules)

pub returns-in_err-ask-3 : goal.returns-in_err-ask-3
unfolding ofusc_of is_cell is_subchannel cells_of subchannels_of width_of answer_of
returns-in_err-ask-3 c = search (met_on, asked, rules)

pub returns-in_err-ask-4 : goal.returns-in_err-ask-4
unfolding ofusc_of is_cell is_subchannel cells_of subchannels_of width_of answer_of
returns-in_err-ask-4 c = search (met_on, asked, rules)

pub returns-in_err-ask-5 : goal.returns-in_err-ask-5
unfolding ofusc_of is_cell is_subchannel cells_of subchannels_of width_of answer_of
returns-in_err-ask-5 c = search (met_on, asked, rules)

pub returns : goal.returns
unfolding ofusc_of is_cell is_subchannel cells_of subchannels_of width_of
returns c = search (met_by, same_size, asked, rules) depth 9
