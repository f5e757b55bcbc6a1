use Rattle.base.proofs.{Prelude.{arith}, Tabulate.{written_all}}
use Rattle.clusters.proofs.Group.{size_most}
use Rattle.pusc_dl_rows.proofs.group_bases.Goals as goal

pub overflow_add-s : goal.overflow_add-s
overflow_add-s c = omega (arith, size_most c.args.g)

pub returns : goal.returns
returns c = written_all c.loop-n.invariant c.loop-n-test.false
