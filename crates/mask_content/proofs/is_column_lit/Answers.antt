-- `mask_content::is_column_lit` meets its contract.
use Rattle.base.proofs.Prelude.{◌∙◌, rules}
use Rattle.mask_content.proofs.is_column_lit.Goals as goal

pub used-requires : goal.used-requires
used-requires c = rw c.band.ensures c.requires.setup_bound.0

pub is_used_lit-requires : goal.is_used_lit-requires
is_used_lit-requires c = record { ranged = search rules; used_bound = rw (c.used.ensures, c.band.ensures) c.requires.setup_bound.1 }

pub returns : goal.returns
returns c = c.is_used_lit.ensures ∙ rw (c.used.ensures, c.band.ensures)
