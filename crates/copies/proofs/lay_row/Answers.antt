-- `copies::lay_row` meets its contract.
use Rattle.copies.proofs.Run.{laid_runs}
use Rattle.copies.proofs.lay_row.Goals as goal

pub returns : goal.returns
returns c = laid_runs c.args.row.now c.args.by c.requires.0 c.args.points.now c.args.grid.now _ _ c.lay_run.ensures c.lay_run-2.ensures
