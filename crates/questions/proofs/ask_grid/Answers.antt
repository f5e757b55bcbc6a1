-- `questions::ask_grid` meets its contract.
use Rattle.refusal.proofs.Asked.{last_number, same_times}
use Rattle.questions.specs.{Question.is_grid, Model.grid_refusal}
use Rattle.questions.proofs.ask_grid.Goals as goal

pub returns : goal.returns
unfolding grid_refusal is_grid
returns c = last_number _ _ (same_times 2 _ c.grid_points.ensures.0) _ c.ask.ensures
