-- `collision::marked` meets its contract.
use Rattle.base.proofs.Prelude.{◌≡◌, Bool, ℕ, ◌≤◌, length}
use Rattle.collision.specs.Model.{Decides}
use Rattle.collision.proofs.Pass.{Passed}
use Rattle.collision.proofs.marked.Given as goal

abbrev pub invariant-loop-k : goal.invariant-loop-k
invariant-loop-k g l =
    record {
      long : length l.hits ≡ 48;
      few : l.count ≤ l.k;
      passed : (hit : ℕ → Bool) → Decides (goal.F-post g l.meet) hit → Passed hit l.k l.hits l.count;
    }
