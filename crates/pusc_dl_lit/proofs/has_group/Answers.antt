-- `pusc_dl_lit::has_group` meets its contract.
use Rattle.base.proofs.Prelude.{refl}
use Rattle.pusc_dl_lit.specs.Lit.{has_group}
use Rattle.pusc_dl_lit.proofs.has_group.Goals as goal

pub returns : goal.returns
unfolding has_group
returns c = refl
