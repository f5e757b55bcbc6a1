-- `look::column_position` meets its contract.
use Rattle.base.proofs.Prelude.{refl, mod-lt, arith}
use Rattle.modes.proofs.ByMode.{few}
use Rattle.lengths.proofs.Refusal.{grid_few}
use Rattle.grid.proofs.Slot.{position_is}
use Rattle.look.proofs.column_position.Goals as goal

pub returns : goal.returns
returns c =
    let start = c in
    position_is start.requires.ranged _ _ (mod-lt start.args.symbol (few start.requires.ranged).symbols_pos) start.requires.column_lt_size _ _ c.offset_of.ensures refl

pub overflow_mul-result : goal.overflow_mul-result
overflow_mul-result c = omega (arith, grid_few c.requires.ranged, returns c)

pub overflow_add-result : goal.overflow_add-result
overflow_add-result c = omega (arith, grid_few c.requires.ranged, returns c)
