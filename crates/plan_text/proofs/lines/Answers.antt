-- `plan_text::lines` meets its contract.
use Rattle.plan_text.specs.Lines.{text_of}
use Rattle.plan_text.proofs.lines.Goals as goal

pub returns-in-Ok : goal.returns-in-Ok
unfolding text_of
returns-in-Ok c = rw c.in-Ok.is c.put_zones.ensures

pub returns-in-Err : goal.returns-in-Err
unfolding text_of
returns-in-Err c = rw (c.in-Err.is, ← c.from.ensures) c.put_refusal.ensures
