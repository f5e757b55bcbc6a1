-- `pusc_dl_points::inverse_entry` meets its contract.
use Rattle.base.proofs.Prelude.{sym}
use Rattle.clusters.specs.Group.{of_size, base_inverse}
use Rattle.pusc_dl_points.specs.Model.{turned_inverse}
use Rattle.pusc_dl_points.proofs.Points.{inverse_12, inverse_8}
use Rattle.pusc_dl_points.proofs.inverse_entry.Goals as goal

pub returns-then-x-lt24 : goal.returns-then-x-lt24
unfolding turned_inverse base_inverse of_size
returns-then-x-lt24 c = rw (c.from.ensures, c.requires.0, c.unrotate-i.ensures.0) (sym (inverse_12 c.args.cell c.args.x c.if-x-lt24.true).0)

pub returns-else-x-lt24 : goal.returns-else-x-lt24
unfolding turned_inverse base_inverse of_size
returns-else-x-lt24 c = rw (c.from-else-x-lt24.ensures, c.requires.1, c.unrotate-i-else-x-lt24.ensures.0) (sym (inverse_8 c.args.cell c.args.x c.if-x-lt24.false).0)
