-- `pusc_dl_rows::group_spots` meets its contract.
use Rattle.pusc_dl_rows.specs.Model.{group_spot}
use Rattle.clusters.proofs.{Halves.{Halves}}
use Rattle.pusc_dl_rows.proofs.group_spots.Given as goal

abbrev pub invariant-loop-k : goal.invariant-loop-k
invariant-loop-k l = Halves 24 (group_spot l.cell l.g l.s) l.row l.k
