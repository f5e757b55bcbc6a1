use Rattle.base.proofs.Tabulate.{written_next}
use Rattle.ofusc_rows.proofs.{Row.with_subchannel}
use Rattle.ofusc_rows.proofs.numbers.Goals as goal

pub loop-k-preserved : goal.loop-k-preserved
loop-k-preserved c =
    let h = c.loop-k-test.true in
    written_next c.loop-k.invariant h _ (rw (c.requires.starts _ h) (with_subchannel c.args.width.is_width _ _ _ c.requires.subchannel_lt_n))
