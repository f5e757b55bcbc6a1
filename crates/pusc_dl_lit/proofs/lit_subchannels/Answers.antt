-- `pusc_dl_lit::lit_subchannels` meets its contract.
use Rattle.base.proofs.Prelude.{rules}
use Rattle.pusc_dl_lit.proofs.{Lit.lit_count}
use Rattle.pusc_dl_lit.proofs.lit_subchannels.Goals as goal

pub returns : goal.returns
returns c = search (lit_count, rules)
