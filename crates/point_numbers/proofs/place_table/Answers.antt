-- `point_numbers::place_table` meets its contract.
use Rattle.base.proofs.Prelude.{replicate, arith, rules}
use Rattle.modes.specs.Model.{own}
use Rattle.modes.proofs.{Named.{by_name, pusc_dl_mode, ofusc_mode, amc_modes}, ByMode.{in_pusc_dl, in_ofusc, in_amc, bin_width}}
use Rattle.point_numbers.specs.Model.{place_entries}
use Rattle.point_numbers.proofs.Numbers.{to_table, inverses_as, groups_as, indices_as, no_places}
use Rattle.point_numbers.proofs.place_table.Goals as goal

pub inverses-requires : goal.inverses-requires
inverses-requires c = (in_pusc_dl (own c.requires) (pusc_dl_mode _ _ c.try_from.ensures _ c.in-Ok-PuscDl.is c.in-Ok-PuscDl.field-0-is)).cell_lt

pub returns-in-Ok-PuscDl : goal.returns-in-Ok-PuscDl
returns-in-Ok-PuscDl c = to_table c.inverses.result (inverses_as _ (pusc_dl_mode _ _ c.try_from.ensures _ c.in-Ok-PuscDl.is c.in-Ok-PuscDl.field-0-is)) c.inverses.ensures

pub invariant_of-width : goal.invariant_of-width
invariant_of-width c =
    let e = ofusc_mode _ _ c.try_from.ensures _ c.in-Ok-Ofusc.is c.in-Ok-Ofusc.field-0-is in
    record { is_width = rw c.width.ensures (bin_width (own c.requires) (omega arith)) }

pub table-requires : goal.table-requires
table-requires c =
    let e = ofusc_mode _ _ c.try_from.ensures _ c.in-Ok-Ofusc.is c.in-Ok-Ofusc.field-0-is in
    record { cell_bound = rw c.width.ensures (in_ofusc (own c.requires) e).cell_lt }

pub returns-in-Ok-Ofusc : goal.returns-in-Ok-Ofusc
returns-in-Ok-Ofusc c = to_table c.table.result (groups_as _ (ofusc_mode _ _ c.try_from.ensures _ c.in-Ok-Ofusc.is c.in-Ok-Ofusc.field-0-is)) (rw c.width.ensures at c.table.ensures)

pub indices-requires : goal.indices-requires
indices-requires c = (in_amc (own c.requires) (amc_modes _ _ c.try_from.ensures _ c.in-Ok-Amc.is c.in-Ok-Amc.field-0-is)).cell_lt

pub returns-in-Ok-Amc : goal.returns-in-Ok-Amc
returns-in-Ok-Amc c = to_table c.indices.result (indices_as _ (amc_modes _ _ c.try_from.ensures _ c.in-Ok-Amc.is c.in-Ok-Amc.field-0-is)) c.indices.ensures

pub returns-in-Ok-PuscUl : goal.returns-in-Ok-PuscUl
unfolding place_entries
returns-in-Ok-PuscUl c = no_places _ (replicate 48 0) (search (by_name, rules))

pub returns-in-Ok-Fusc : goal.returns-in-Ok-Fusc
unfolding place_entries
returns-in-Ok-Fusc c = no_places _ (replicate 48 0) (search (by_name, rules))

pub returns-in-Err : goal.returns-in-Err
unfolding place_entries
returns-in-Err c = no_places _ (replicate 48 0) (search (by_name, rules))
