-- `pusc_dl_lit::group_bit` meets its contract.
use Rattle.pusc_dl_lit.proofs.{Lit.group-bit}
use Rattle.pusc_dl_lit.proofs.group_bit.Goals as goal

pub returns : goal.returns
returns c =
    rw (c.past.ensures.value, c.past-2.ensures.value, c.past-3.ensures.value, c.past-4.ensures.value, c.past-5.ensures.value)
    (group-bit _ c.requires)
