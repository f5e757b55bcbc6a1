-- `rows::carrier_row` meets its contract.
use Rattle.base.proofs.Prelude.{refl, arith}
use Rattle.modes.proofs.{Named.{otherwise, pusc_dl_mode, pusc_ul_mode, ofusc_mode, fusc_mode, amc_modes, shape_named}, ByMode.{few, in_fusc, ranged_alone}, Lent.list_lent}
use Rattle.rows.proofs.Row.{asks_0, asks_1, asks_2, asks_amc, row_0, row_1, row_2, row_amc, row_7, numbers_below, spots_below, carriers_of, listed}
use Rattle.rows.proofs.carrier_row.Goals as goal

pub band-requires : goal.band-requires
band-requires c = ranged_alone c.requires.valid

pub band-requires-in-Ok-Ofusc : goal.band-requires-in-Ok-Ofusc
band-requires-in-Ok-Ofusc c = ranged_alone c.requires.valid

-- PUSC downlink
pub spots-spots-requires : goal.spots-spots-requires
spots-spots-requires c =
    let p = c.requires in
    asks_0 p.valid.ranged _ p.subchannel_bound (pusc_dl_mode _ _ c.try_from.ensures _ c.in-Ok-PuscDl.is c.in-Ok-PuscDl.field-0-is)

pub carrier_row-requires : goal.carrier_row-requires
carrier_row-requires c =
    let p = c.requires in
    let q = pusc_dl_mode _ _ c.try_from.ensures _ c.in-Ok-PuscDl.is c.in-Ok-PuscDl.field-0-is in
    let f = few p.valid.ranged in
    rw c.band.ensures (omega arith, omega arith, spots_below p.valid (omega arith) c.args.slot _ p.subchannel_bound _ (row_0 _ _ _ q _ c.spots-spots.ensures))

pub returns-in-Ok-PuscDl : goal.returns-in-Ok-PuscDl
returns-in-Ok-PuscDl c =
    let p = c.requires in
    let q = pusc_dl_mode _ _ c.try_from.ensures _ c.in-Ok-PuscDl.is c.in-Ok-PuscDl.field-0-is in
    carriers_of p.valid (omega arith) _ _ p.subchannel_bound _ (row_0 _ _ _ q _ c.spots-spots.ensures) _ (rw c.band.ensures at c.carrier_row.ensures)

-- PUSC uplink
pub carrier_row-requires-in-Ok-PuscUl : goal.carrier_row-requires-in-Ok-PuscUl
carrier_row-requires-in-Ok-PuscUl c =
    let p = c.requires in
    asks_1 p.valid.ranged _ p.subchannel_bound (pusc_ul_mode _ _ c.try_from.ensures _ c.in-Ok-PuscUl.is c.in-Ok-PuscUl.field-0-is)

pub returns-in-Ok-PuscUl : goal.returns-in-Ok-PuscUl
returns-in-Ok-PuscUl c =
    let p = c.requires in
    let q = pusc_ul_mode _ _ c.try_from.ensures _ c.in-Ok-PuscUl.is c.in-Ok-PuscUl.field-0-is in
    row_1 p.valid (omega arith) _ _ p.subchannel_bound q _ c.carrier_row-in-Ok-PuscUl.ensures

-- optional FUSC
pub invariant_of-width : goal.invariant_of-width
invariant_of-width c =
    let p = c.requires in
    record { is_width = (asks_2 p.valid.ranged _ p.subchannel_bound _ c.width.ensures (ofusc_mode _ _ c.try_from.ensures _ c.in-Ok-Ofusc.is c.in-Ok-Ofusc.field-0-is)).0 }

pub table-table-requires : goal.table-table-requires
table-table-requires c =
    let p = c.requires in
    record { cell_bound = (asks_2 p.valid.ranged _ p.subchannel_bound _ c.width.ensures (ofusc_mode _ _ c.try_from.ensures _ c.in-Ok-Ofusc.is c.in-Ok-Ofusc.field-0-is)).2 }

pub numbers-numbers-requires : goal.numbers-numbers-requires
numbers-numbers-requires c =
    let p = c.requires in
    let a = asks_2 p.valid.ranged _ p.subchannel_bound _ c.width.ensures (ofusc_mode _ _ c.try_from.ensures _ c.in-Ok-Ofusc.is c.in-Ok-Ofusc.field-0-is) in
    record { subchannel_lt_n = a.1; starts = c.table-table.ensures }

pub used_numbers-spots-requires : goal.used_numbers-spots-requires
used_numbers-spots-requires c =
    let p = c.requires in
    let q = ofusc_mode _ _ c.try_from.ensures _ c.in-Ok-Ofusc.is c.in-Ok-Ofusc.field-0-is in
    numbers_below p.valid.ranged q c.args.slot _ p.subchannel_bound _ c.width.ensures _ c.numbers-numbers.ensures

pub carrier_row-requires-in-Ok-Ofusc : goal.carrier_row-requires-in-Ok-Ofusc
carrier_row-requires-in-Ok-Ofusc c =
    let p = c.requires in
    let q = ofusc_mode _ _ c.try_from.ensures _ c.in-Ok-Ofusc.is c.in-Ok-Ofusc.field-0-is in
    let f = few p.valid.ranged in
    let t = row_2 p.valid.ranged q c.args.slot _ p.subchannel_bound _ c.width.ensures _ c.numbers-numbers.ensures _ c.used_numbers-spots.ensures in
    rw c.band-in-Ok-Ofusc.ensures (omega arith, omega arith, spots_below p.valid (omega arith) c.args.slot _ p.subchannel_bound _ t)

pub returns-in-Ok-Ofusc : goal.returns-in-Ok-Ofusc
returns-in-Ok-Ofusc c =
    let p = c.requires in
    let q = ofusc_mode _ _ c.try_from.ensures _ c.in-Ok-Ofusc.is c.in-Ok-Ofusc.field-0-is in
    let t = row_2 p.valid.ranged q c.args.slot _ p.subchannel_bound _ c.width.ensures _ c.numbers-numbers.ensures _ c.used_numbers-spots.ensures in
    carriers_of p.valid (omega arith) _ _ p.subchannel_bound _ t _ (rw c.band-in-Ok-Ofusc.ensures at c.carrier_row-in-Ok-Ofusc.ensures)

-- AMC
pub table-table-requires-in-Ok-Amc : goal.table-table-requires-in-Ok-Amc
table-table-requires-in-Ok-Amc c =
    let p = c.requires in
    let a = asks_amc p.valid.ranged _ p.subchannel_bound (amc_modes _ _ c.try_from.ensures _ c.in-Ok-Amc.is c.in-Ok-Amc.field-0-is) _ (shape_named _ _ c.try_from.ensures _ c.in-Ok-Amc.is c.in-Ok-Amc.field-0-is) _ c.width-width.ensures in
    (a.0, a.1, a.2)

pub carrier_row-requires-in-Ok-Amc-clause-shape : goal.carrier_row-requires-in-Ok-Amc-clause-shape
carrier_row-requires-in-Ok-Amc-clause-shape c =
    let p = c.requires in
    asks_amc p.valid.ranged _ p.subchannel_bound (amc_modes _ _ c.try_from.ensures _ c.in-Ok-Amc.is c.in-Ok-Amc.field-0-is) _ (shape_named _ _ c.try_from.ensures _ c.in-Ok-Amc.is c.in-Ok-Amc.field-0-is) _ c.width-width.ensures

pub returns-in-Ok-Amc : goal.returns-in-Ok-Amc
returns-in-Ok-Amc c =
    let p = c.requires in
    row_amc _ _ _ p.valid.ranged (amc_modes _ _ c.try_from.ensures _ c.in-Ok-Amc.is c.in-Ok-Amc.field-0-is) _ (shape_named _ _ c.try_from.ensures _ c.in-Ok-Amc.is c.in-Ok-Amc.field-0-is) _ c.width-width.ensures _ c.carrier_row-in-Ok-Amc.ensures

-- FUSC, whose row goes by its list
pub carrier_row-requires-in-Ok-Fusc : goal.carrier_row-requires-in-Ok-Fusc
carrier_row-requires-in-Ok-Fusc c =
    let p = c.requires in
    let q = fusc_mode _ _ c.try_from.ensures _ c.in-Ok-Fusc.is c.in-Ok-Fusc.field-0-is in
    let r = in_fusc p.valid.ranged q in
    record { cell_bound = (r.cell_lt, rw r.subchannels_are at p.subchannel_bound); pilots_value = list_lent p.valid q }

pub returns-in-Ok-Fusc : goal.returns-in-Ok-Fusc
returns-in-Ok-Fusc c =
    let q = fusc_mode _ _ c.try_from.ensures _ c.in-Ok-Fusc.is c.in-Ok-Fusc.field-0-is in
    row_7 c.requires.valid.ranged q _ _ _ c.carrier_row-in-Ok-Fusc.ensures

pub returns-in-Err : goal.returns-in-Err
returns-in-Err c = absurd (listed c.requires.valid.ranged (otherwise _ _ _ _ _ _ _ _ c.try_from.ensures _ _ c.in-Err.is refl))
