-- `pusc_dl::group_data` meets its contract.
use Rattle.base.proofs.Prelude.{digits_lt}
use Rattle.clusters.specs.{Model.turned_base}
use Rattle.pusc_dl.specs.Inner.{group_data}
use Rattle.pusc_dl.proofs.group_data.Goals as goal

pub returns : goal.returns
unfolding group_data turned_base
returns c =
    let size = c.group_size-size.ensures.0 in
    let n = c.rotate-n.ensures in
    let r = c.turned_base.ensures in
    let x = c.from.ensures in
    (rw (x, r.0, n.0, size), rw (x, size) (digits_lt n.1 r.1))
