-- `pusc_dl_lit::group_bits` meets its contract.
use Rattle.base.proofs.{Tabulate.{Written}}
use Rattle.pusc_dl_lit.specs.Model.{group_bit}
use Rattle.pusc_dl_lit.proofs.group_bits.Given as goal

abbrev pub invariant-loop-p : goal.invariant-loop-p
invariant-loop-p l = Written 120 group_bit l.bits l.p
