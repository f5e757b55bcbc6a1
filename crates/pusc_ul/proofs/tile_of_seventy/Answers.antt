-- `pusc_ul::tile_of_seventy` meets its contract.
use Rattle.base.proofs.Prelude.{arith}
use Rattle.pusc_ul.proofs.{Tables.q_perm}
use Rattle.pusc_ul.proofs.tile_of_seventy.Goals as goal

pub reduce-requires : goal.reduce-requires
reduce-requires c =
    rw (c.from.ensures, c.requires.0)
    (omega (arith, q_perm.to_lt _ c.reduce-i.ensures.1))
