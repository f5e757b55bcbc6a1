use Rattle.base.proofs.{Prelude.{◌≡◌, refl, ◌+◌, ◌*◌, arith}, Tabulate.{written_next}}
use Rattle.fusc_points.proofs.Points.{number_is}
use Rattle.fusc_points.proofs.put_numbers.Goals as goal

pub loop-x-preserved : goal.loop-x-preserved
loop-x-preserved c =
    let x = c.loop-x.x in
    let h = c.loop-x-test.true in
    let next : c.args.n * 32 + (x + 1) ≡ c.args.n * 32 + x + 1 = omega arith in
    rw next
    (written_next c.loop-x.invariant (omega arith) _
    (number_is c.args.cell c.args.n x _ _ c.requires.n_bound.0 h (c.requires.n_bound.1 x h) refl))
