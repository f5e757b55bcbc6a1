use Rattle.base.proofs.Prelude.{sym, arith}
use Rattle.pilot_list.proofs.{Entries.{accepted}, Stand.{stands_next, moved_by}}
use Rattle.pilot_list.proofs.used_of_data.Goals as goal

pub loop-pilot-preserved : goal.loop-pilot-preserved
loop-pilot-preserved c =
    let list = accepted _ c.requires.0 in
    let inv = c.loop-pilot.invariant in
    (omega (arith, list.long), omega arith, rw inv.1 (stands_next _ list.climbs _ _ c.loop-pilot-test.true _ inv.2))

pub returns : goal.returns
returns c = let inv = c.loop-pilot.invariant in sym (moved_by _ c.requires.0 _ _ _ c.requires.1 inv.0 c.loop-pilot-test.false inv.2)
