use Rattle.base.proofs.Prelude.{refl, ◌<◌, arith, lit<, rules}
use Rattle.pusc_ul.specs.Tile.{data_place, is_tile_pilot}
use Rattle.pusc_ul_rows.proofs.Row.{tiles_next, two_of}
use Rattle.pusc_ul_rows.proofs.carrier_row.Goals as goal

pub loop-t-preserved : goal.loop-t-preserved
unfolding data_place is_tile_pilot
loop-t-preserved c =
    let h : c.loop-t.t < 6 = search rules in
    let first = c.tile_start-first.ensures.0 in
    rw (c.put_two-in-loop-t-3.ensures, c.put_two-in-loop-t-2.ensures, c.put_two-in-loop-t.ensures, c.put_two.ensures)
    (tiles_next c.loop-t.invariant h _ _ _ _
    (two_of _ _ _ h 0 1 _ _ (omega arith) (omega arith) (lit< tt) (lit< tt) refl refl (omega (arith, first)))
    (two_of _ _ _ h 1 0 _ _ (omega arith) (omega arith) (lit< tt) (lit< tt) refl refl (omega (arith, first)))
    (two_of _ _ _ h 1 2 _ _ (omega arith) (omega arith) (lit< tt) (lit< tt) refl refl (omega (arith, first)))
    (two_of _ _ _ h 2 1 _ _ (omega arith) (omega arith) (lit< tt) (lit< tt) refl refl (omega (arith, first))))
