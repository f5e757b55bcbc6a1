-- `pusc_ul_rows::row_numbers` meets its contract.
use Rattle.base.proofs.Prelude.{◌*◌}
use Rattle.base.specs.Model.{Starts}
use Rattle.pusc_ul_rows.specs.Model.{row_number}
use Rattle.pusc_ul_rows.proofs.row_numbers.Given as goal

abbrev pub invariant-loop-m : goal.invariant-loop-m
invariant-loop-m l = Starts (l.m * 70) (row_number l.cell l.offset) l.row
