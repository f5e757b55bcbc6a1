-- `pusc_ul::tile_subchannel` meets its contract.
use Rattle.base.proofs.Prelude.{arith}
use Rattle.pusc_ul.proofs.{Tables.q_perm}
use Rattle.pusc_ul.proofs.tile_subchannel.Goals as goal

pub reduce-requires : goal.reduce-requires
reduce-requires c =
    rw (c.from.ensures, c.requires.0)
    (omega (arith, q_perm.from_lt _ c.reduce-x.ensures.1))
