-- `burst_owner::mark_burst` meets its contract.
use Rattle.base.proofs.Prelude.{sym, ◌∙◌}
use Rattle.burst_owner.proofs.mark_burst.Goals as goal

pub returns-then-not-is_of : goal.returns-then-not-is_of
returns-then-not-is_of c = rw (sym c.is_of.ensures ∙ c.if-not-is_of.true)

pub returns : goal.returns
returns c = rw (sym c.is_of.ensures ∙ c.if-not-is_of.false) c.mark.ensures
