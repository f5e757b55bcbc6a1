-- `map::at` meets its contract.
use Rattle.base.proofs.Prelude.{arith}
use Rattle.centre.proofs.Law.{number_read}
use Rattle.map.specs.Place.{used_carrier, place_at}
use Rattle.modes.proofs.{ByMode.{slot_few, few}, Outcome.{size_few, column_below}}
use Rattle.map.proofs.at.Goals as goal

pub carrier-column-requires : goal.carrier-column-requires
carrier-column-requires c = (rw c.band.ensures (omega (arith, few c.requires.ranged)), omega (arith, few c.requires.ranged, c.requires.slot_bound.2))

pub overflow_mul-result : goal.overflow_mul-result
overflow_mul-result c =
    let start = c in
    omega (arith, slot_few start.requires.ranged start.args.slot c.symbols.result start.requires.slot_bound.0 c.symbols.ensures)

pub overflow_add-result : goal.overflow_add-result
overflow_add-result c =
    let start = c in
    omega (arith, few start.requires.ranged, slot_few start.requires.ranged start.args.slot c.symbols.result start.requires.slot_bound.0 c.symbols.ensures, start.requires.slot_bound.1)

pub from_dc-requires : goal.from_dc-requires
from_dc-requires c =
    let start = c in
    (size_few start.requires.ranged, column_below start.requires.ranged _ c.band.ensures _ start.requires.slot_bound.2 _ c.carrier-column.ensures)

pub returns : goal.returns
unfolding place_at used_carrier
returns c =
    rw (c.from_dc.ensures, number_read _ _ (size_few c.requires.ranged, column_below c.requires.ranged _ c.band.ensures _ c.requires.slot_bound.2 _ c.carrier-column.ensures), c.carrier-column.ensures, c.band.ensures, c.symbols.ensures)
