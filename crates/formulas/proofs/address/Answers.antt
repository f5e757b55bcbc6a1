-- `formulas::address` meets its contract.
use Rattle.base.proofs.Prelude.{arith, rules}
use Rattle.modes.proofs.{Named.{by_name, pusc_dl_mode, pusc_ul_mode, ofusc_mode, fusc_mode, amc_modes, shape_named}, ByMode.{few, ranged_alone, bin_width}}
use Rattle.formulas.proofs.Asks.{pusc_dl_asks, pusc_ul_asks, ofusc_back_asks, amc_back_asks, amc_address, fusc_back_asks}
use Rattle.formulas.specs.Formula.{address_of}
use Rattle.formulas.proofs.address.Goals as goal

pub address-requires : goal.address-requires
address-requires c =
    let p = c.requires in
    pusc_dl_asks p.valid.ranged _ _ p.used_bound p.used_value (pusc_dl_mode _ _ c.try_from.ensures _ c.in-Ok-PuscDl.is c.in-Ok-PuscDl.field-0-is)

pub address-requires-in-Ok-PuscUl : goal.address-requires-in-Ok-PuscUl
address-requires-in-Ok-PuscUl c =
    let p = c.requires in
    pusc_ul_asks p.valid.ranged _ _ p.used_bound p.used_value (pusc_ul_mode _ _ c.try_from.ensures _ c.in-Ok-PuscUl.is c.in-Ok-PuscUl.field-0-is)

pub address-requires-in-Ok-Fusc : goal.address-requires-in-Ok-Fusc
address-requires-in-Ok-Fusc c =
    let p = c.requires in
    fusc_back_asks p.valid (fusc_mode _ _ c.try_from.ensures _ c.in-Ok-Fusc.is c.in-Ok-Fusc.field-0-is) _ _ p.used_bound p.used_value

pub data_of_used-requires : goal.data_of_used-requires
data_of_used-requires c = omega (arith, few c.requires.valid.ranged, c.requires.used_bound)

pub data_of_used-requires-in-Ok-Amc : goal.data_of_used-requires-in-Ok-Amc
data_of_used-requires-in-Ok-Amc c = omega (arith, few c.requires.valid.ranged, c.requires.used_bound)

pub invariant_of-width : goal.invariant_of-width
invariant_of-width c =
    let q = ofusc_mode _ _ c.try_from.ensures _ c.in-Ok-Ofusc.is c.in-Ok-Ofusc.field-0-is in
    record { is_width = rw c.width.ensures (bin_width c.requires.valid.ranged (omega arith)) }

pub address-requires-in-Ok-Ofusc : goal.address-requires-in-Ok-Ofusc
address-requires-in-Ok-Ofusc c =
    let p = c.requires in
    record { cell_bound = ofusc_back_asks p.valid.ranged _ _ p.used_bound p.used_value _ c.width.ensures _ c.data_of_used.ensures (ofusc_mode _ _ c.try_from.ensures _ c.in-Ok-Ofusc.is c.in-Ok-Ofusc.field-0-is) }

pub offset_of-requires : goal.offset_of-requires
offset_of-requires c = ranged_alone c.requires.valid

pub address-requires-in-Ok-Amc : goal.address-requires-in-Ok-Amc
address-requires-in-Ok-Amc c =
    let p = c.requires in
    amc_back_asks p.valid.ranged _ _ p.used_bound p.used_value _ (shape_named _ _ c.try_from.ensures _ c.in-Ok-Amc.is c.in-Ok-Amc.field-0-is) _ c.offset_of.ensures _ c.data_of_used-in-Ok-Amc.ensures (amc_modes _ _ c.try_from.ensures _ c.in-Ok-Amc.is c.in-Ok-Amc.field-0-is)

pub returns-in-Ok-PuscDl : goal.returns-in-Ok-PuscDl
unfolding address_of
returns-in-Ok-PuscDl c = search (by_name, rules)

pub returns-in-Ok-PuscUl : goal.returns-in-Ok-PuscUl
unfolding address_of
returns-in-Ok-PuscUl c = search (by_name, rules)

pub returns-in-Ok-Ofusc : goal.returns-in-Ok-Ofusc
unfolding address_of
returns-in-Ok-Ofusc c = rw (c.address-in-Ok-Ofusc.ensures, c.width.ensures, c.data_of_used.ensures) (search (by_name, rules))

pub returns-in-Ok-Amc : goal.returns-in-Ok-Amc
unfolding address_of
returns-in-Ok-Amc c = search (amc_address, amc_modes, shape_named, rules)

pub returns-in-Ok-Fusc : goal.returns-in-Ok-Fusc
unfolding address_of
returns-in-Ok-Fusc c = search (by_name, rules)

pub returns-in-Err : goal.returns-in-Err
unfolding address_of
returns-in-Err c = search (by_name, rules)
