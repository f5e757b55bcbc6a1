-- `fusc_rows::carrier_row` meets its contract.
use Rattle.base.proofs.Prelude.{◌*◌}
use Rattle.base.proofs.Tabulate.{Written}
use Rattle.carriers.specs.Band.{fusc_band, carrier_of}
use Rattle.pilot_list.specs.List.{used_of_data}
use Rattle.fusc.specs.Model.{turn_number}
use Rattle.fusc_rows.specs.Model.{Passed}
use Rattle.fusc_rows.proofs.carrier_row.Given as goal

abbrev pub invariant-loop-n : goal.invariant-loop-n
invariant-loop-n l = Passed l.pilots (l.n * 32) l.j × Written 48 (λ k. carrier_of fusc_band (used_of_data l.pilots (turn_number l.cell l.subchannel k))) l.row l.n
