use Rattle.text.proofs.Laws.{decimal_one, length_more, one_digit, more_digits}
use native.Mathlib.Omega.{arith}
use mathlib.Core.Path.{ap}
use lib.ListN.{length}
use Rattle.text.proofs.+put_digits.Goals as goal

pub put_byte-requires : goal.put_byte-requires
put_byte-requires t c = omega (arith, ap length (decimal_one c.args.x c.if-x-lt10.true), c.requires)

pub returns-then-x-lt10 : goal.returns-then-x-lt10
returns-then-x-lt10 t c = one_digit c.if-x-lt10.true c.put_byte.ensures

pub put_digits-next-requires : goal.put_digits-next-requires
put_digits-next-requires t c =
    let more = length_more c.args.x (omega arith) in
    (omega (arith, c.decreases), omega (arith, more, c.requires))

pub put_byte-requires-2 : goal.put_byte-requires-2
put_byte-requires-2 t c =
    omega (arith, length_more c.args.x (omega arith), c.requires, c.put_digits-next.ensures.next_is, c.put_digits-next.auto.dest)

pub returns : goal.returns
returns t c = more_digits c.args.x (omega arith) (omega (arith, c.requires)) c.put_digits-next.ensures c.put_byte-2.ensures
