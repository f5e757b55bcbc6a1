-- `plan_text::put_field` meets its contract: a number has at most 20 digits.
use Rattle.base.proofs.Prelude.{arith}
use Rattle.text.proofs.Laws.{put_then, decimal_fits}
use Rattle.plan_text.proofs.put_field.Goals as goal

pub put_byte-requires : goal.put_byte-requires
put_byte-requires c = omega (arith, c.put_number-next.ensures.next_is, c.put_number-next.auto.dest, decimal_fits c.args.x (omega arith))

pub returns : goal.returns
returns c = (
  put_then _ _ (omega arith) c.put_number-next.ensures c.put_byte.ensures,
  omega (arith, c.put_number-next.ensures.next_is, c.put_byte.ensures.next_is, decimal_fits c.args.x (omega arith)),
)
