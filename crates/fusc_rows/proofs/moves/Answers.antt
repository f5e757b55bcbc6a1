use Rattle.base.proofs.Prelude.{arith}
use Rattle.fusc_rows.proofs.Columns.{own_place, moves_none, moves_next, moves_few}
use Rattle.fusc_rows.proofs.moves.Goals as goal

pub loop-i-init : goal.loop-i-init
loop-i-init c = moves_none _

pub overflow_add-table : goal.overflow_add-table
overflow_add-table c = omega (arith, moves_few _ _ _ _ (own_place _ c.requires _ c.loop-i-test.true).1 c.loop-i.invariant)

pub loop-i-preserved : goal.loop-i-preserved
loop-i-preserved c =
    let place = own_place _ c.requires _ c.loop-i-test.true in
    moves_next _ _ _ _ (omega (arith, place.0)) c.loop-i.invariant place.1
