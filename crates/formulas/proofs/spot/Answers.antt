-- `formulas::spot` meets its contract.
use Rattle.base.proofs.Prelude.{refl, arith, rules}
use Rattle.modes.proofs.{Named.{by_name, pusc_dl_mode, pusc_ul_mode, ofusc_mode, fusc_mode, amc_modes, shape_named}, ByMode.{in_pusc_dl, in_pusc_ul, slot_few, ranged_alone}}
use Rattle.formulas.proofs.Asks.{ofusc_few, ofusc_spot, amc_asks, amc_few, amc_spot, fusc_asks}
use Rattle.formulas.specs.Formula.{spot_of}
use Rattle.formulas.proofs.spot.Goals as goal

pub spot-requires : goal.spot-requires
spot-requires c = omega (arith, in_pusc_dl c.requires.valid.ranged (pusc_dl_mode _ _ c.try_from.ensures _ c.in-Ok-PuscDl.is c.in-Ok-PuscDl.field-0-is))

pub spot-requires-in-Ok-PuscUl : goal.spot-requires-in-Ok-PuscUl
spot-requires-in-Ok-PuscUl c = omega (arith, in_pusc_ul c.requires.valid.ranged (pusc_ul_mode _ _ c.try_from.ensures _ c.in-Ok-PuscUl.is c.in-Ok-PuscUl.field-0-is))

pub spot-requires-in-Ok-Fusc : goal.spot-requires-in-Ok-Fusc
spot-requires-in-Ok-Fusc c =
    let p = c.requires in
    fusc_asks p.valid (fusc_mode _ _ c.try_from.ensures _ c.in-Ok-Fusc.is c.in-Ok-Fusc.field-0-is) _ _ p.slot_bound.1 p.slot_bound.2

pub overflow_mul-slot : goal.overflow_mul-slot
overflow_mul-slot c = omega (arith, slot_few c.requires.valid.ranged c.args.slot c.symbols.result c.requires.slot_bound.0 c.symbols.ensures)

pub ofusc_number-requires : goal.ofusc_number-requires
ofusc_number-requires c =
    let p = c.requires in
    record { ranged = ranged_alone p.valid; mode_value = (ofusc_mode _ _ c.try_from.ensures _ c.in-Ok-Ofusc.is c.in-Ok-Ofusc.field-0-is, p.slot_bound.1, p.slot_bound.2) }

pub bin_spot-requires : goal.bin_spot-requires
bin_spot-requires c =
    let p = c.requires in
    let few = ofusc_few p.valid.ranged _ refl _ _ p.slot_bound.1 p.slot_bound.2 (ofusc_mode _ _ c.try_from.ensures _ c.in-Ok-Ofusc.is c.in-Ok-Ofusc.field-0-is) in (
      omega (arith, slot_few p.valid.ranged c.args.slot c.symbols.result p.slot_bound.0 c.symbols.ensures),
      rw c.ofusc_number.ensures (omega arith),
      rw c.ofusc_number.ensures few,
    )

pub overflow_mul-slot-in-Ok-Amc : goal.overflow_mul-slot-in-Ok-Amc
overflow_mul-slot-in-Ok-Amc c =
    omega (arith, slot_few c.requires.valid.ranged c.args.slot c.symbols-in-Ok-Amc.result c.requires.slot_bound.0 c.symbols-in-Ok-Amc.ensures)

pub data_number-requires : goal.data_number-requires
data_number-requires c =
    let p = c.requires in
    amc_asks p.valid.ranged (amc_modes _ _ c.try_from.ensures _ c.in-Ok-Amc.is c.in-Ok-Amc.field-0-is) _ _ p.slot_bound.1 p.slot_bound.2 _ (shape_named _ _ c.try_from.ensures _ c.in-Ok-Amc.is c.in-Ok-Amc.field-0-is)

pub bin_spot-requires-in-Ok-Amc : goal.bin_spot-requires-in-Ok-Amc
bin_spot-requires-in-Ok-Amc c =
    let p = c.requires in
    let few = amc_few p.valid.ranged (amc_modes _ _ c.try_from.ensures _ c.in-Ok-Amc.is c.in-Ok-Amc.field-0-is) _ _ p.slot_bound.1 p.slot_bound.2 _ (shape_named _ _ c.try_from.ensures _ c.in-Ok-Amc.is c.in-Ok-Amc.field-0-is) in (
      omega (arith, slot_few p.valid.ranged c.args.slot c.symbols-in-Ok-Amc.result p.slot_bound.0 c.symbols-in-Ok-Amc.ensures),
      rw c.data_number.ensures few.0,
      rw c.data_number.ensures few.1,
    )

pub returns-in-Ok-PuscDl : goal.returns-in-Ok-PuscDl
unfolding spot_of
returns-in-Ok-PuscDl c = search (by_name, rules)

pub returns-in-Ok-PuscUl : goal.returns-in-Ok-PuscUl
unfolding spot_of
returns-in-Ok-PuscUl c = search (by_name, rules)

pub returns-in-Ok-Ofusc : goal.returns-in-Ok-Ofusc
unfolding spot_of
returns-in-Ok-Ofusc c = ofusc_spot _ _ _ _ _ c.symbols.ensures _ _ c.bin_spot.ensures (ofusc_mode _ _ c.try_from.ensures _ c.in-Ok-Ofusc.is c.in-Ok-Ofusc.field-0-is) c.ofusc_number.ensures

pub returns-in-Ok-Amc : goal.returns-in-Ok-Amc
unfolding spot_of
returns-in-Ok-Amc c = amc_spot _ _ _ _ _ c.symbols-in-Ok-Amc.ensures _ _ c.bin_spot-in-Ok-Amc.ensures (amc_modes _ _ c.try_from.ensures _ c.in-Ok-Amc.is c.in-Ok-Amc.field-0-is) _ (shape_named _ _ c.try_from.ensures _ c.in-Ok-Amc.is c.in-Ok-Amc.field-0-is) c.data_number.ensures

pub returns-in-Ok-Fusc : goal.returns-in-Ok-Fusc
unfolding spot_of
returns-in-Ok-Fusc c = search (by_name, rules)

pub returns-in-Err : goal.returns-in-Err
unfolding spot_of
returns-in-Err c = search (by_name, rules)
