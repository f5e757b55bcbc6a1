-- `lengths::points_length` meets its contract.
use Rattle.base.proofs.Prelude.{ap, ℕ, ◌*◌, arith}
use Rattle.refusal.proofs.Asked.{number_ne0}
use Rattle.modes.specs.Setup.{setup_with}
use Rattle.modes.proofs.{ByMode.few, Outcome.now_ranged}
use Rattle.lengths.specs.Length.{points_length}
use Rattle.lengths.proofs.Length.{unlisted, listed}
use Rattle.lengths.proofs.points_length.Goals as goal

pub overflow_mul-result : goal.overflow_mul-result
overflow_mul-result c = omega (arith, few (now_ranged (setup_with c.args.mode c.args.size 0) c.in-Ok.ensures))

pub returns-in-Err : goal.returns-in-Err
unfolding points_length
returns-in-Err c = unlisted _ _ _ c.in-Err.ensures _ (number_ne0 _)

pub returns-in-Ok : goal.returns-in-Ok
unfolding points_length
returns-in-Ok c = listed (now_ranged (setup_with c.args.mode c.args.size 0) c.in-Ok.ensures) (ap (λ (n : ℕ). 96 * n) c.subchannels.ensures)
