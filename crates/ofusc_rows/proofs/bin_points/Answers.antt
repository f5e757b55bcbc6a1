use Rattle.base.proofs.{Prelude.{◌∙◌, arith}, Tabulate.{written_next}}
use Rattle.ofusc_rows.proofs.Points.{found}
use Rattle.ofusc_rows.proofs.bin_points.Goals as goal

pub point-requires : goal.point-requires
point-requires c =
    let its = found c.args.width.is_width c.args.cell _ _ _ _ _ c.requires.i_bound.1 c.requires.i_bound.0 c.loop-j-test.true c.parts-p.ensures.0 c.parts-q.ensures.0 in
    rw (c.by_half-in-loop-j.ensures, c.by_half.ensures) (its.subchannel_few, its.group_few)

pub loop-j-preserved : goal.loop-j-preserved
loop-j-preserved c =
    let its = found c.args.width.is_width c.args.cell _ _ _ _ _ c.requires.i_bound.1 c.requires.i_bound.0 c.loop-j-test.true c.parts-p.ensures.0 c.parts-q.ensures.0 in
    written_next c.loop-j.invariant (omega arith) _ (c.point.ensures ∙ rw (c.by_half-in-loop-j.ensures, c.by_half.ensures) its.number)
