-- `pusc_dl_points::group_ranks` meets its contract.
use Rattle.base.proofs.{Tabulate.{Written}}
use Rattle.pusc_dl_points.specs.Model.{group_rank}
use Rattle.pusc_dl_points.proofs.group_ranks.Given as goal

abbrev pub invariant-loop-g : goal.invariant-loop-g
invariant-loop-g l = Written 6 (group_rank l.mask) l.ranks l.g
