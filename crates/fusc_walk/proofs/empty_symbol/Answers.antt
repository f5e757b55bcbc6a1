-- `fusc_walk::empty_symbol` meets its contract.
use Rattle.base.proofs.Prelude.{arith}
use Rattle.modes.proofs.{ByMode.in_fusc, Lent.list_lent}
use Rattle.fusc_walk.proofs.Walk.{all-lit, columns_within, dropped_took}
use Rattle.fusc_walk.proofs.empty_symbol.Goals as goal

pub data_carriers-columns-requires : goal.data_carriers-columns-requires
data_carriers-columns-requires c = let p = c.requires in list_lent p.valid p.mode_value.0

pub point_numbers-numbers-requires : goal.point_numbers-numbers-requires
point_numbers-numbers-requires c = let p = c.requires in (in_fusc p.valid.ranged p.mode_value.0).cell_lt

pub drop_points-requires : goal.drop_points-requires
drop_points-requires c =
    let start = c in
    let p = start.requires in
    columns_within p.valid p.mode_value.0 start.args.mask start.args.slot _ _ c.data_carriers-columns.ensures c.point_numbers-numbers.ensures _ _ p.mode_value.2 p.mode_value.1

pub returns : goal.returns
returns c =
    let start = c in
    let p = start.requires in
    dropped_took p.valid p.mode_value.0 start.args.mask start.args.slot start.args.carriers start.args.grid.now start.args.points.now _ _ c.data_carriers-columns.ensures c.point_numbers-numbers.ensures (omega (arith, p.mode_value.1, all-lit p.valid p.mode_value.0 start.args.mask start.args.slot)) _ c.drop_points.ensures

pub shape_of-points : goal.shape_of-points
shape_of-points c = (returns c).long
