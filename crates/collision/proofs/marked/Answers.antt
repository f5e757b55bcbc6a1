use Rattle.base.proofs.Prelude.{refl, arith, ◌∙◌}
use Rattle.std.proofs.Common.{length-set}
use Rattle.collision.proofs.Pass.{start, step, answer, byte_le}
use Rattle.collision.proofs.marked.Goals as goal

pub loop-k-init : goal.loop-k-init
loop-k-init g c = record { long = refl; few = omega arith; passed = λ hit d. start hit }

pub loop-k-preserved : goal.loop-k-preserved
loop-k-preserved g c =
    let before = c.loop-k.invariant in
    record {
      long = length-set c.loop-k.hits c.loop-k.k c.meet-hit.result ∙ before.long;
      few = omega (arith, byte_le);
      passed = λ hit d. step hit _ _ _ _ (before.passed hit d) c.loop-k-test.true (d _ _ c.loop-k-test.true c.meet-hit.ensures);
    }

pub returns : goal.returns
returns g c hit d = answer hit _ _ _ (c.loop-k.invariant.passed hit d) c.loop-k-test.false
