-- `mask::is_used_lit` meets its contract.
use Rattle.base.proofs.Prelude.{sym, ◌∙◌}
use Rattle.modes.proofs.{Named.is_number, ByMode.in_pusc_dl}
use Rattle.mask.specs.Mask.{is_used_lit_of}
use Rattle.mask.proofs.is_used_lit.Goals as goal

pub is_used_lit-requires : goal.is_used_lit-requires
is_used_lit-requires c =
    let q = in_pusc_dl c.requires.ranged (is_number _ _ c.takes_mask.ensures c.if-takes_mask.true) in
    (q.cell_lt, rw q.used_are at c.requires.used_bound)

pub returns-then-takes_mask : goal.returns-then-takes_mask
unfolding is_used_lit_of
returns-then-takes_mask c = rw (sym c.takes_mask.ensures ∙ c.if-takes_mask.true) c.is_used_lit.ensures

pub returns : goal.returns
unfolding is_used_lit_of
returns c = rw (sym c.takes_mask.ensures ∙ c.if-takes_mask.false)
