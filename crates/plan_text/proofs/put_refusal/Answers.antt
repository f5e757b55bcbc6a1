-- `plan_text::put_refusal` meets its contract.
use Rattle.base.proofs.Prelude.{arith}
use Rattle.text.proofs.Laws.{put_then}
use Rattle.plan_text.specs.Lines.{refusal_line}
use Rattle.plan_text.proofs.put_refusal.Goals as goal

pub put_field-requires : goal.put_field-requires
put_field-requires c = omega (arith, c.put_bytes-at.ensures.next_is, c.put_bytes-at.auto.dest)

pub returns : goal.returns
unfolding refusal_line
returns c = put_then _ _ (omega arith) c.put_bytes-at.ensures c.put_field.ensures.0
