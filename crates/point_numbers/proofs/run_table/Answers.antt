-- `point_numbers::run_table` meets its contract.
use Rattle.base.proofs.Prelude.{rules, replicate}
use Rattle.modes.specs.Model.{own}
use Rattle.modes.proofs.{Named.{by_name, pusc_dl_mode, pusc_ul_mode}, ByMode.{in_pusc_dl, in_pusc_ul}}
use Rattle.point_numbers.specs.Model.{run_entries}
use Rattle.point_numbers.proofs.Numbers.{to_table, clusters_as, tiles_as, no_runs}
use Rattle.point_numbers.proofs.run_table.Goals as goal

pub clusters-requires : goal.clusters-requires
clusters-requires c = ((in_pusc_dl (own c.requires.unlent) (pusc_dl_mode _ _ c.try_from.ensures _ c.in-Ok-PuscDl.is c.in-Ok-PuscDl.field-0-is)).cell_lt, c.requires.mask_bound)

pub returns-in-Ok-PuscDl : goal.returns-in-Ok-PuscDl
returns-in-Ok-PuscDl c = to_table c.clusters.result (clusters_as _ _ (pusc_dl_mode _ _ c.try_from.ensures _ c.in-Ok-PuscDl.is c.in-Ok-PuscDl.field-0-is)) c.clusters.ensures

pub tiles-requires : goal.tiles-requires
tiles-requires c = (in_pusc_ul (own c.requires.unlent) (pusc_ul_mode _ _ c.try_from.ensures _ c.in-Ok-PuscUl.is c.in-Ok-PuscUl.field-0-is)).cell_lt

pub returns-in-Ok-PuscUl : goal.returns-in-Ok-PuscUl
returns-in-Ok-PuscUl c = to_table c.tiles.result (tiles_as _ _ (pusc_ul_mode _ _ c.try_from.ensures _ c.in-Ok-PuscUl.is c.in-Ok-PuscUl.field-0-is)) c.tiles.ensures

pub returns-in-Ok-Ofusc : goal.returns-in-Ok-Ofusc
unfolding run_entries
returns-in-Ok-Ofusc c = no_runs _ (replicate 120 0) _ (search (by_name, rules))

pub returns-in-Ok-Amc : goal.returns-in-Ok-Amc
unfolding run_entries
returns-in-Ok-Amc c = no_runs _ (replicate 120 0) _ (search (by_name, rules))

pub returns-in-Ok-Fusc : goal.returns-in-Ok-Fusc
unfolding run_entries
returns-in-Ok-Fusc c = no_runs _ (replicate 120 0) _ (search (by_name, rules))

pub returns-in-Err : goal.returns-in-Err
unfolding run_entries
returns-in-Err c = no_runs _ (replicate 120 0) _ (search (by_name, rules))
