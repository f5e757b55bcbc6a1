use Rattle.base.proofs.Prelude.{refl, arith}
use Rattle.pilot_list.proofs.Entries.{accepted}
use Rattle.modes.proofs.{ByMode.{few, ranged_alone}, Lent.list_lent}
use Rattle.points.proofs.Copy.{putting_none, putting_long, putting_next, putting_done}
use Rattle.ground.proofs.Lent.{entry_used, entry_in, list_put}
use Rattle.ground.proofs.list_pilots.Goals as goal

pub carrier-requires : goal.carrier-requires
carrier-requires c =
    let f = few (ranged_alone c.requires.valid) in
    (rw c.band-band.ensures (omega arith), omega (arith, entry_used c.requires.valid c.requires.mode_value.0 c.loop-i.i (omega (arith, c.loop-i-test.true))))

pub put_point-requires : goal.put_point-requires
put_point-requires c =
    rw (c.carrier.ensures)
    (omega (arith, entry_in c.requires.valid c.requires.mode_value.0 _ c.band-band.ensures c.loop-i.i (omega (arith, c.loop-i-test.true)), putting_long c.loop-i.invariant, c.requires.mode_value.1))

pub loop-i-preserved : goal.loop-i-preserved
loop-i-preserved c =
    putting_next c.loop-i.invariant (omega (arith, c.loop-i-test.true)) _ (c.carrier.ensures) _ refl _ c.put_point.ensures

pub returns : goal.returns
returns c =
    list_put c.requires.valid c.requires.mode_value.0 _ _ _ _ c.band-band.ensures _ c.requires.mode_value.1 _ (putting_done c.loop-i.invariant (omega (arith, c.loop-i-test.false)))

pub band-band-requires : goal.band-band-requires
band-band-requires c = ranged_alone c.requires.valid

pub loop-i-init : goal.loop-i-init
loop-i-init c = putting_none _ _ _ _

pub bounds-pilots-i : goal.bounds-pilots-i
bounds-pilots-i c = omega (arith, (accepted _ (list_lent c.requires.valid c.requires.mode_value.0)).long, c.loop-i-test.true)

pub shape_of-grid : goal.shape_of-grid
shape_of-grid c = putting_long c.loop-i.invariant
