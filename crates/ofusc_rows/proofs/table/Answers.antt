use Rattle.base.proofs.{Prelude.{arith}, Tabulate.{written_next}}
use Rattle.ofusc_rows.proofs.{Row.again_entry}
use Rattle.ofusc_rows.proofs.table.Goals as goal

pub overflow_add-table : goal.overflow_add-table
overflow_add-table c = omega (arith, (again_entry c.args.width.is_width _ _ _ (omega arith) c.loop-k-test.true c.loop-k.invariant).1)

pub loop-k-preserved : goal.loop-k-preserved
loop-k-preserved c =
    let h = c.loop-k-test.true in
    written_next c.loop-k.invariant h _ (again_entry c.args.width.is_width _ _ _ (omega arith) h c.loop-k.invariant).0
