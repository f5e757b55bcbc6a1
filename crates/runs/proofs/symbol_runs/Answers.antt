-- `runs::symbol_runs` meets its contract.
use Rattle.base.proofs.Prelude.{◌∙◌, arith, rules}
use Rattle.ofusc.proofs.Sequence.{size}
use Rattle.modes.specs.Model.{own}
use Rattle.modes.proofs.{ByMode.{bin_width}, Named.{by_name, pusc_dl_mode, pusc_ul_mode, ofusc_bins, amc_bins}}
use Rattle.runs.specs.Model.{run_step, run_count, run_first, run_second}
use Rattle.runs.proofs.Law.{runs_0, runs_1, runs_bins, runs_none}
use Rattle.runs.proofs.symbol_runs.Goals as goal

pub returns-in-Ok-PuscDl : goal.returns-in-Ok-PuscDl
returns-in-Ok-PuscDl c = c.cluster_runs.ensures ∙ runs_0 _ _ (pusc_dl_mode _ _ c.try_from.ensures _ c.in-Ok-PuscDl.is c.in-Ok-PuscDl.field-0-is)

pub returns-in-Ok-PuscUl : goal.returns-in-Ok-PuscUl
returns-in-Ok-PuscUl c = c.tile_runs.ensures ∙ runs_1 _ _ (pusc_ul_mode _ _ c.try_from.ensures _ c.in-Ok-PuscUl.is c.in-Ok-PuscUl.field-0-is)

pub bin_runs-requires : goal.bin_runs-requires
bin_runs-requires c = omega (arith, c.width.ensures, size (bin_width (own c.requires) (ofusc_bins _ _ c.try_from.ensures _ c.in-Ok-Ofusc.is c.in-Ok-Ofusc.field-0-is)))

pub returns-in-Ok-Ofusc : goal.returns-in-Ok-Ofusc
returns-in-Ok-Ofusc c = rw (c.bin_runs.ensures, c.width.ensures) (runs_bins _ _ (ofusc_bins _ _ c.try_from.ensures _ c.in-Ok-Ofusc.is c.in-Ok-Ofusc.field-0-is))

pub bin_runs-requires-in-Ok-Amc : goal.bin_runs-requires-in-Ok-Amc
bin_runs-requires-in-Ok-Amc c = omega (arith, c.width-in-Ok-Amc.ensures, size (bin_width (own c.requires) (amc_bins _ _ c.try_from.ensures _ c.in-Ok-Amc.is c.in-Ok-Amc.field-0-is)))

pub returns-in-Ok-Amc : goal.returns-in-Ok-Amc
returns-in-Ok-Amc c = rw (c.bin_runs-in-Ok-Amc.ensures, c.width-in-Ok-Amc.ensures) (runs_bins _ _ (amc_bins _ _ c.try_from.ensures _ c.in-Ok-Amc.is c.in-Ok-Amc.field-0-is))

pub returns-in-Ok-Fusc : goal.returns-in-Ok-Fusc
unfolding run_first run_second run_step run_count
returns-in-Ok-Fusc c = search (runs_none, by_name, rules)

pub returns-in-Err : goal.returns-in-Err
unfolding run_first run_second run_step run_count
returns-in-Err c = search (runs_none, by_name, rules)
