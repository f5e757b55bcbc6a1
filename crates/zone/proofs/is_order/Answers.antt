-- `zone::is_order` meets its contract: of the first zone, and of a zone after another.
use Rattle.base.proofs.{Prelude.{eq-eqb, ne_eqb}, Test.{told_no, told_yes}}
use Rattle.zone.specs.Zone.{is_opening, is_following}
use Rattle.zone.proofs.is_order.Goals as goal

pub returns-then-size-ne2048 : goal.returns-then-size-ne2048
unfolding is_opening
returns-then-size-ne2048 c = rw (c.in-None.is, ne_eqb _ 2048 c.if-size-ne2048.true)

pub returns-else-size-ne2048 : goal.returns-else-size-ne2048
unfolding is_opening
returns-else-size-ne2048 c = rw (c.in-None.is, eq-eqb _ 2048 c.if-size-ne2048.false)

pub returns-then-not-is_amc : goal.returns-then-not-is_amc
unfolding is_following
returns-then-not-is_amc c = rw (c.in-Some.is, c.if-not-is_amc.true, told_no _ c.is_amc.ensures c.if-not-is_amc.true)

pub returns-else-not-is_amc : goal.returns-else-not-is_amc
unfolding is_following
returns-else-not-is_amc c = rw (c.is_amc-else-not-is_amc.ensures, c.in-Some.is, told_yes _ c.is_amc.ensures c.if-not-is_amc.false)
