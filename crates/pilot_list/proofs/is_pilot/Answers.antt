use Rattle.base.proofs.{Prelude.{refl}, First.{asking_next, asked}}
use Rattle.pilot_list.proofs.{Entries.in_found}
use Rattle.pilot_list.proofs.is_pilot.Goals as goal

pub loop-pilot-preserved : goal.loop-pilot-preserved
loop-pilot-preserved c = asking_next c.loop-pilot.invariant c.loop-pilot-test.true _ refl

pub returns : goal.returns
returns c = in_found _ _ (asked c.loop-pilot.invariant c.loop-pilot-test.false)
