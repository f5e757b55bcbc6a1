use Rattle.base.proofs.Prelude.{arith}
use Rattle.pilot_list.proofs.{Entries.{accepted}, Stand.{after_next, after_at}}
use Rattle.pilot_list.proofs.data_of_used.Goals as goal

pub loop-pilot-preserved : goal.loop-pilot-preserved
loop-pilot-preserved c =
    let list = accepted _ c.requires.0 in
    (omega (arith, list.long), after_next _ list.climbs _ _ c.loop-pilot-test.true _ c.loop-pilot.invariant.1)

pub overflow_sub-result : goal.overflow_sub-result
overflow_sub-result c = omega (arith, after_at _ c.requires.0 _ _ _ c.loop-pilot.invariant.0 c.loop-pilot-test.false c.loop-pilot.invariant.1)

pub returns : goal.returns
returns c = omega (arith, after_at _ c.requires.0 _ _ _ c.loop-pilot.invariant.0 c.loop-pilot-test.false c.loop-pilot.invariant.1)
