-- `fusc::address` meets its contract.
use Rattle.base.proofs.Prelude.{arith}
use Rattle.pilot_list.proofs.Law.{left_law}
use Rattle.fusc.proofs.address.Goals as goal

pub data_address-requires : goal.data_address-requires
data_address-requires c =
    let p = c.requires in
    omega (arith, c.data_of_used-d.ensures, (left_law _ p.3).data_lt _ p.1 p.2)
