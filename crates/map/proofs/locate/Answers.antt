-- `map::locate` meets its contract.
use Rattle.base.proofs.Prelude.{arith, rules, ltb-true, ◌*◌, ◌<◌, subst, ℕ}
use Rattle.refusal.proofs.Asked.{asked_yes, asked}
use Rattle.modes.specs.{Setup.alone, Question.is_symbol}
use Rattle.map.specs.Place.{locate_of}
use Rattle.modes.proofs.{ByMode.few, Outcome.{now_ranged, now_valid, refuses, lets_pass, carrier_same, size_few, carrier_in, column-in}}
use Rattle.map.proofs.Outcome.{located_on, locate_done}
use Rattle.map.proofs.locate.Goals as goal

pub overflow_mul-symbols : goal.overflow_mul-symbols
overflow_mul-symbols c = omega (arith, few (now_ranged (alone c.args.setup) c.in_ok-ask_setup.ensures))

pub in_range-requires : goal.in_range-requires
in_range-requires c = omega (arith, size_few (now_ranged (alone c.args.setup) c.in_ok-ask_setup.ensures))

pub column-column-requires : goal.column-column-requires
column-column-requires c = (size_few (now_ranged (alone c.args.setup) c.in_ok-ask_setup.ensures), carrier_in _ c.args.carrier _ c.in_range.ensures (asked_yes _ _ _ c.in_ok-ask-2.ensures))

pub content-requires : goal.content-requires
content-requires c =
    record {
      valid = now_valid _ c.in_ok-ask_setup.ensures _ c.is_lent.ensures _ c.in_ok-ask-3.ensures;
      column_lt_size = column-in (alone c.args.setup) _ c.ranges.carrier _ c.in_range.ensures (asked_yes _ _ _ c.in_ok-ask-2.ensures) _ c.column-column.ensures (now_ranged (alone c.args.setup) c.in_ok-ask_setup.ensures);
    }

pub returns-in_err-ask_setup : goal.returns-in_err-ask_setup
unfolding locate_of is_symbol
returns-in_err-ask_setup c = search (located_on, refuses, rules)

pub returns-in_err-ask : goal.returns-in_err-ask
unfolding locate_of is_symbol
returns-in_err-ask c = search (located_on, lets_pass, carrier_same, asked, rules)

pub returns-in_err-ask-2 : goal.returns-in_err-ask-2
unfolding locate_of is_symbol
returns-in_err-ask-2 c = search (located_on, lets_pass, carrier_same, asked, rules)

pub returns-in_err-ask-3 : goal.returns-in_err-ask-3
unfolding locate_of is_symbol
returns-in_err-ask-3 c = search (located_on, lets_pass, carrier_same, asked, rules)

pub returns : goal.returns
returns c =
    let below = ltb-true c.args.symbol (512 * c.symbols.result) (asked_yes _ _ _ c.in_ok-ask.ensures) in
    locate_done _ _ c.ranges.carrier _ c.in_range.ensures (asked_yes _ _ _ c.in_ok-ask-2.ensures) _ c.column-column.ensures _
    (now_valid _ c.in_ok-ask_setup.ensures _ c.is_lent.ensures _ c.in_ok-ask-3.ensures) (subst (λ (n : ℕ). c.args.symbol < 512 * n) c.symbols.ensures below) _ c.content.ensures
