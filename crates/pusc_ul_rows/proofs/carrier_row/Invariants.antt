-- `pusc_ul_rows::carrier_row` meets its contract.
use Rattle.pusc_ul_rows.specs.Model.{place_number}
use Rattle.pusc_ul_rows.proofs.Row.{TileTurn}
use Rattle.pusc_ul_rows.proofs.carrier_row.Given as goal

abbrev pub invariant-loop-t : goal.invariant-loop-t
invariant-loop-t l = TileTurn (place_number l.cell l.subchannel) l.row l.t
