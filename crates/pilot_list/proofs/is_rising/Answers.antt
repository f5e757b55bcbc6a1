use Rattle.base.proofs.{Prelude.{refl, ◌∙◌}, First.{asking_next, asked}}
use Rattle.pilot_list.proofs.{Entries.rising_found}
use Rattle.pilot_list.proofs.is_rising.Goals as goal

pub loop-i-preserved : goal.loop-i-preserved
loop-i-preserved c = asking_next c.loop-i.invariant c.loop-i-test.true _ refl

pub returns : goal.returns
returns c = asked c.loop-i.invariant c.loop-i-test.false ∙ rising_found _ c.requires
