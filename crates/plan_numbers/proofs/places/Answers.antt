use Rattle.base.proofs.{Prelude.{rules}, Tabulate.at_none}
use Rattle.plan_numbers.proofs.Laws.{placing_again, placing_end}
use Rattle.plan_numbers.proofs.places.Goals as goal

pub loop-k-init : goal.loop-k-init
loop-k-init c = at_none (search rules)

pub loop-k-preserved : goal.loop-k-preserved
loop-k-preserved c = search (placing_again, rules)

pub returns : goal.returns
returns c = placing_end _ c.loop-k.invariant c.loop-k-test.false
