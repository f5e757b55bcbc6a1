-- `burst_list::is_apart` meets its contract.
use Rattle.base.proofs.{First.{Asking}}
use Rattle.burst.specs.Model.{edges_overlap}
use Rattle.burst_list.specs.Model.{edges_at}
use Rattle.burst_list.proofs.is_apart.Given as goal

abbrev pub invariant-loop-j : goal.invariant-loop-j
invariant-loop-j l = Asking (λ k. edges_overlap (edges_at l.starts l.ends l.slot_starts l.slot_ends k) l.edges) l.i l.overlaps l.j
