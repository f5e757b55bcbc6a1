-- `pusc_dl_lit::twice` meets its contract.
use Rattle.base.proofs.Prelude.{refl, replicate, rules}
use Rattle.pusc_dl_lit.proofs.Lit.{twice_over}
use Rattle.pusc_dl_lit.proofs.twice.Goals as goal

pub returns : goal.returns
returns c = twice_over c.args.once.now (replicate 240 0) c.copy_from_slice.new.self c.copy_from_slice-2.new.self c.copy_from_slice.ensures.after c.copy_from_slice-2.ensures.after (search rules) refl
