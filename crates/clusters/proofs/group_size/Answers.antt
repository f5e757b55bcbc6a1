-- `clusters::group_size` meets its contract.
use Rattle.base.proofs.Prelude.{rules, eq-eqb, ne_eqb}
use Rattle.clusters.specs.Group.{group_size}
use Rattle.clusters.proofs.group_size.Goals as goal

pub returns-then-g-eq0 : goal.returns-then-g-eq0
unfolding group_size
returns-then-g-eq0 c = simp (eq-eqb _ _ c.if-g-eq0.true) (search rules)

pub returns-else-g-eq0 : goal.returns-else-g-eq0
unfolding group_size
returns-else-g-eq0 c = simp (ne_eqb _ _ c.if-g-eq0.false) (search rules)
