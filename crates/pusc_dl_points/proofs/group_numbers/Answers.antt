use Rattle.base.proofs.{Prelude.{◌+◌, ◌*◌, arith}, Tabulate.{written_next, written_all}}
use Rattle.pusc_dl_points.proofs.Points.{turn_is, quotient_lt, entry_at, number_of}
use Rattle.pusc_dl_points.proofs.group_numbers.Goals as goal

pub group_number-requires : goal.group_number-requires
group_number-requires g c =
    let q = c.requires in
    let h = c.loop-r-test.true in
    let place = rw (c.from-data.ensures, c.from-2.ensures) at c.from-3.ensures in
    let n = turn_is _ _ c.loop-r.r _ _ _ q.1 c.from-data.ensures c.from.ensures c.from-2.ensures in
    (omega arith, q.2, q.0, rw n (quotient_lt _ _ _ q.1 h), (entry_at _ _ _ _ _ _ _ q.4 q.1 q.2 h place).1)

pub loop-r-preserved : goal.loop-r-preserved
loop-r-preserved g c =
    let q = c.requires in
    let h = c.loop-r-test.true in
    let place = rw (c.from-data.ensures, c.from-2.ensures) at c.from-3.ensures in
    let n = turn_is _ _ c.loop-r.r _ _ _ q.1 c.from-data.ensures c.from.ensures c.from-2.ensures in
    written_next c.loop-r.invariant h _
    (number_of _ _ _ (c.args.i * 12 + c.loop-r.r) _ _ _ n (entry_at _ _ _ _ _ _ _ q.4 q.1 q.2 h place).0 c.group_number.ensures)

pub returns : goal.returns
returns g c = written_all c.loop-r.invariant c.loop-r-test.false
