use Rattle.base.proofs.Tabulate.{written_none, written_next}
use Rattle.capi_collisions.proofs.Collision.{byte_is, handed, refused_out}
use Rattle.capi_collisions.proofs.hand_over.Goals as goal

pub loop-k-init : goal.loop-k-init
loop-k-init c = written_none 48 _

pub loop-k-preserved : goal.loop-k-preserved
loop-k-preserved c = written_next c.loop-k.invariant c.loop-k-test.true _ (byte_is _)

pub returns-after-loop-k : goal.returns-after-loop-k
returns-after-loop-k c = handed c.in-Ok.collisions c.args.answer c.in-Ok.is c.requires _ _ c.loop-k.invariant c.loop-k-test.false _ _

pub returns-in-Err : goal.returns-in-Err
returns-in-Err c = refused_out _ _ _ c.in-Err.is c.from.ensures _ _
