use Rattle.base.proofs.{Prelude.{ap, ◌∙◌}, Tabulate.{written_next, written_all}}
use Rattle.clusters.specs.{Group.{cluster_starts, group_in}, declared.Logical.Logical}
use Rattle.pusc_dl_lit.specs.Model.{group_bit}
use Prim.Native.Nat.{◌^◌}
use Rattle.pusc_dl_lit.proofs.group_bits.Goals as goal

pub loop-p-preserved : goal.loop-p-preserved
unfolding group_bit
loop-p-preserved c =
    written_next c.loop-p.invariant c.loop-p-test.true _
    (c.group_bit.ensures ∙ ap (λ (l : Logical). 2 ^ group_in cluster_starts l.0) c.renumber.ensures.0)

pub returns : goal.returns
returns c = written_all c.loop-p.invariant c.loop-p-test.false
