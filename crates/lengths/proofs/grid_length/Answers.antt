-- `lengths::grid_length` meets its contract.
use Rattle.base.proofs.Prelude.{ap, ℕ, ◌*◌}
use Rattle.refusal.proofs.Asked.{number_ne0}
use Rattle.modes.specs.Setup.{setup_with}
use Rattle.modes.proofs.Outcome.{now_ranged}
use Rattle.lengths.specs.Length.{grid_length}
use Rattle.lengths.proofs.Length.{unlisted, listed}
use Rattle.lengths.proofs.grid_length.Goals as goal

pub returns-in-Err : goal.returns-in-Err
unfolding grid_length
returns-in-Err c = unlisted _ _ _ c.in-Err.ensures _ (number_ne0 _)

pub grid_points-requires : goal.grid_points-requires
grid_points-requires c = now_ranged (setup_with c.args.mode c.args.size 0) c.in-Ok.ensures

pub returns-in-Ok : goal.returns-in-Ok
unfolding grid_length
returns-in-Ok c = listed (now_ranged (setup_with c.args.mode c.args.size 0) c.in-Ok.ensures) (ap (λ (n : ℕ). 2 * n) c.grid_points.ensures.0)
