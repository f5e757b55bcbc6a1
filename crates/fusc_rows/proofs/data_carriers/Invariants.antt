-- `fusc_rows::data_carriers` meets its contract.
use Rattle.base.proofs.{Prelude.{◌≡◌}, Tabulate.{Written}}
use Rattle.base.specs.Rank.{rank}
use Rattle.carriers.specs.Band.{fusc_band, carrier_of}
use Rattle.pilot_list.specs.List.{used_of_data}
use Rattle.fusc_rows.specs.Model.{is_before}
use Rattle.fusc_rows.proofs.data_carriers.Given as goal

abbrev pub invariant-loop-d : goal.invariant-loop-d
invariant-loop-d l = (l.passed ≡ rank (is_before l.pilots l.d) 166) × Written 1536 (λ k. carrier_of fusc_band (used_of_data l.pilots k)) l.row l.d
