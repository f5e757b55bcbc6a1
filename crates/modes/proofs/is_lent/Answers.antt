-- `modes::is_lent` meets its contract.
use Rattle.base.proofs.Prelude.{sym, ◌∙◌}
use Rattle.modes.specs.Question.{is_lent}
use Rattle.modes.proofs.is_lent.Goals as goal

pub returns-then-takes_list : goal.returns-then-takes_list
unfolding is_lent
returns-then-takes_list c = rw (sym c.takes_list.ensures ∙ c.if-takes_list.true) c.is_pilot_list.ensures

pub returns : goal.returns
unfolding is_lent
returns c = rw (sym c.takes_list.ensures ∙ c.if-takes_list.false) c.is_empty.ensures
