-- 20 digits are enough for any number.
use native.Mathlib.Omega.{arith}
use Rattle.text.proofs.Laws.{decimal_fits}
use Rattle.text.proofs.put_number.Goals as goal

pub put_digits-requires : goal.put_digits-requires
put_digits-requires c = omega (arith, decimal_fits c.args.x (omega arith))
