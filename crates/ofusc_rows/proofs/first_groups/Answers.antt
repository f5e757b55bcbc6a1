use Rattle.base.proofs.{Prelude.{arith}, Tabulate.{written_next}}
use Rattle.ofusc.proofs.Sequence.{size}
use Rattle.ofusc_rows.proofs.{Row.cell_entry}
use Rattle.ofusc_rows.proofs.first_groups.Goals as goal

pub overflow_add-table : goal.overflow_add-table
overflow_add-table c =
    omega (arith, (cell_entry c.args.width.is_width c.args.cell _ _ _ _ _ c.loop-k-test.true c.parts-c.ensures.1 c.parts-c.ensures.0 c.term.ensures c.term-in-loop-k.ensures).1)

pub overflow_cast-table : goal.overflow_cast-table
overflow_cast-table c =
    omega (arith, (cell_entry c.args.width.is_width c.args.cell _ _ _ _ _ c.loop-k-test.true c.parts-c.ensures.1 c.parts-c.ensures.0 c.term.ensures c.term-in-loop-k.ensures).1)

pub loop-k-preserved : goal.loop-k-preserved
loop-k-preserved c =
    written_next c.loop-k.invariant (omega (arith, size c.args.width.is_width)) _
    (cell_entry c.args.width.is_width c.args.cell _ _ _ _ _ c.loop-k-test.true c.parts-c.ensures.1 c.parts-c.ensures.0 c.term.ensures c.term-in-loop-k.ensures).0
