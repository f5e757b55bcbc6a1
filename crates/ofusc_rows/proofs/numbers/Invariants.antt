-- `ofusc_rows::numbers` meets its contract.
use Rattle.base.proofs.{Tabulate.{Written}}
use Rattle.ofusc_rows.specs.Model.{group_number}
use Rattle.ofusc_rows.proofs.numbers.Given as goal

abbrev pub invariant-loop-k : goal.invariant-loop-k
invariant-loop-k l = Written 48 (group_number l.fn.width.n l.cell l.subchannel) l.row l.k
