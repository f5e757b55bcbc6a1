-- `modes::band` meets its contract.
use Rattle.base.proofs.Prelude.{arith, rules}
use Rattle.ofusc.proofs.Sequence.{size}
use Rattle.modes.specs.Mode.{band_of}
use Rattle.modes.proofs.{Named.{by_name, ofusc_bins, amc_bins}, ByMode.bin_width}
use Rattle.modes.proofs.band.Goals as goal

pub bin_band-requires : goal.bin_band-requires
bin_band-requires c = omega (arith, size (bin_width c.requires (ofusc_bins _ _ c.try_from.ensures _ c.in-Ok-Ofusc.is c.in-Ok-Ofusc.field-0-is)))

pub bin_band-requires-in-Ok-Amc : goal.bin_band-requires-in-Ok-Amc
bin_band-requires-in-Ok-Amc c = omega (arith, size (bin_width c.requires (amc_bins _ _ c.try_from.ensures _ c.in-Ok-Amc.is c.in-Ok-Amc.field-0-is)))

pub returns-in-Ok-PuscDl : goal.returns-in-Ok-PuscDl
unfolding band_of
returns-in-Ok-PuscDl c = search (by_name, rules)

pub returns-in-Ok-PuscUl : goal.returns-in-Ok-PuscUl
unfolding band_of
returns-in-Ok-PuscUl c = search (by_name, rules)

pub returns-in-Ok-Ofusc : goal.returns-in-Ok-Ofusc
unfolding band_of
returns-in-Ok-Ofusc c = rw (c.bin_band.ensures, c.width.ensures) (search (by_name, rules))

pub returns-in-Ok-Amc : goal.returns-in-Ok-Amc
unfolding band_of
returns-in-Ok-Amc c = rw (c.bin_band-in-Ok-Amc.ensures, c.width-in-Ok-Amc.ensures) (search (by_name, rules))

pub returns-in-Ok-Fusc : goal.returns-in-Ok-Fusc
unfolding band_of
returns-in-Ok-Fusc c = search (by_name, rules)

pub returns-in-Err : goal.returns-in-Err
unfolding band_of
returns-in-Err c = search (by_name, rules)
