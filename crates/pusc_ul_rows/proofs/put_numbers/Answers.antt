use Rattle.base.proofs.{Prelude.{◌≡◌, ◌+◌, ◌*◌, ◌/◌, arith, rules}, Tabulate.{written_next}}
use Rattle.pusc_ul_rows.proofs.Points.{carrier_is, carrier_lt, no_pilot, few_points, number_at}
use Rattle.pusc_ul_rows.proofs.put_numbers.Goals as goal

pub data_place-q-requires : goal.data_place-q-requires
data_place-q-requires c =
    let o = c.args.offset in
    let j = c.args.m / 6 in
    rw (carrier_is o j) (search rules, search rules, carrier_lt o j (omega arith), no_pilot o j (omega arith))

pub loop-x-preserved : goal.loop-x-preserved
loop-x-preserved c =
    let x = c.loop-x.x in
    let h = c.loop-x-test.true in
    let next : c.args.m * 70 + (x + 1) ≡ c.args.m * 70 + x + 1 = omega arith in
    rw next
    (written_next c.loop-x.invariant (omega (arith, few_points c.args.offset)) _
    (rw (c.reduce.ensures.0, c.data_place-q.ensures.0, carrier_is c.args.offset (c.args.m / 6))
    (number_at _ _ _ x _ _ c.requires.offset_bound.1 h (c.requires.offset_bound.2 x h) c.reduce-s.ensures.0)))
