-- `pusc_ul_rows::put_numbers` meets its contract.
use Rattle.base.proofs.{Prelude.{◌+◌, ◌*◌}, Tabulate.{Written}}
use Rattle.pusc_ul_rows.specs.Model.{row_number}
use Rattle.pusc_ul_rows.proofs.put_numbers.Given as goal

abbrev pub invariant-loop-x : goal.invariant-loop-x
invariant-loop-x l = Written 1680 (row_number l.cell l.offset) l.row (l.m * 70 + l.x)
