-- `point_numbers::run_numbers` meets its contract.
use Rattle.base.proofs.Prelude.{◌≡◌, arith, rules}
use Rattle.modes.specs.Setup.{alone}
use Rattle.modes.specs.Model.{own}
use Rattle.modes.proofs.{Named.{by_name, pusc_dl_mode, pusc_ul_mode, ofusc_mode, amc_modes, shape_named}, ByMode.bin_width}
use Rattle.runs.specs.Model.{run_count}
use Rattle.point_numbers.proofs.Numbers.{asks_0, asks_2, asks_amc, numbers_0, numbers_2, numbers_amc}
use Rattle.point_numbers.proofs.run_numbers.Goals as goal

pub cluster_points-requires : goal.cluster_points-requires
cluster_points-requires c =
    let p = c.requires in
    let a = asks_0 p.unlent _ _ p.fact.1 p.fact.2 _ c.args.runs.now c.args.places.now p.run_table.0 p.run_table.1 (pusc_dl_mode _ _ c.try_from.ensures _ c.in-Ok-PuscDl.is c.in-Ok-PuscDl.field-0-is) in
    record { offset_bound = a.0; starts = a.1 }

pub returns-in-Ok-PuscDl : goal.returns-in-Ok-PuscDl
returns-in-Ok-PuscDl c = let p = c.requires in numbers_0 _ c.args.slot _ _ c.cluster_points.result p.unlent (pusc_dl_mode _ _ c.try_from.ensures _ c.in-Ok-PuscDl.is c.in-Ok-PuscDl.field-0-is) p.fact.1 c.cluster_points.ensures

pub returns-in-Ok-PuscUl : goal.returns-in-Ok-PuscUl
returns-in-Ok-PuscUl c = absurd (c.requires.fact.0 (pusc_ul_mode _ _ c.try_from.ensures _ c.in-Ok-PuscUl.is c.in-Ok-PuscUl.field-0-is))

pub invariant_of-width : goal.invariant_of-width
invariant_of-width c =
    let q = ofusc_mode _ _ c.try_from.ensures _ c.in-Ok-Ofusc.is c.in-Ok-Ofusc.field-0-is in
    record { is_width = rw c.width.ensures (bin_width (own c.requires.unlent) (omega arith)) }

pub bin_points-requires : goal.bin_points-requires
bin_points-requires c =
    let p = c.requires in
    record { i_bound = asks_2 p.unlent _ _ p.fact.1 p.fact.2 _ c.args.runs.now c.args.places.now p.run_table.0 p.run_table.1 (ofusc_mode _ _ c.try_from.ensures _ c.in-Ok-Ofusc.is c.in-Ok-Ofusc.field-0-is) _ c.width.ensures }

pub returns-in-Ok-Ofusc : goal.returns-in-Ok-Ofusc
returns-in-Ok-Ofusc c lit = let p = c.requires in numbers_2 _ c.args.slot _ _ c.bin_points.result p.unlent (ofusc_mode _ _ c.try_from.ensures _ c.in-Ok-Ofusc.is c.in-Ok-Ofusc.field-0-is) p.fact.1 _ c.width.ensures c.bin_points.ensures

pub bin_points-requires-in-Ok-Amc : goal.bin_points-requires-in-Ok-Amc
bin_points-requires-in-Ok-Amc c =
    let p = c.requires in
    let a = asks_amc p.unlent _ _ p.fact.1 p.fact.2 _ c.args.runs.now c.args.places.now p.run_table.0 p.run_table.1 (amc_modes _ _ c.try_from.ensures _ c.in-Ok-Amc.is c.in-Ok-Amc.field-0-is) _ (shape_named _ _ c.try_from.ensures _ c.in-Ok-Amc.is c.in-Ok-Amc.field-0-is) in
    record { shape = a.0; starts = a.1 }

pub returns-in-Ok-Amc : goal.returns-in-Ok-Amc
returns-in-Ok-Amc c lit = let p = c.requires in numbers_amc _ c.args.slot _ _ c.bin_points-in-Ok-Amc.result p.unlent (amc_modes _ _ c.try_from.ensures _ c.in-Ok-Amc.is c.in-Ok-Amc.field-0-is) p.fact.1 _ (shape_named _ _ c.try_from.ensures _ c.in-Ok-Amc.is c.in-Ok-Amc.field-0-is) c.bin_points-in-Ok-Amc.ensures

-- no other mode has a run
pub returns-in-Ok-Fusc : goal.returns-in-Ok-Fusc
unfolding run_count
returns-in-Ok-Fusc c lit = let none : 0 ≡ run_count (alone c.args.setup) = search (by_name, rules) in absurd (omega arith)

pub returns-in-Err : goal.returns-in-Err
unfolding run_count
returns-in-Err c lit = let none : 0 ≡ run_count (alone c.args.setup) = search (by_name, rules) in absurd (omega arith)
