-- `mask::lit_subchannels` meets its contract.
use Rattle.base.proofs.Prelude.{sym, ◌∙◌}
use Rattle.modes.specs.Setup.{alone}
use Rattle.modes.proofs.Named.{is_number, not_number}
use Rattle.mask.proofs.Law.{others_count, groups_count}
use Rattle.mask.proofs.lit_subchannels.Goals as goal

pub returns-then-takes_mask : goal.returns-then-takes_mask
returns-then-takes_mask c = groups_count (alone c.args.setup) _ (is_number _ _ c.takes_mask.ensures c.if-takes_mask.true) _ c.lit_subchannels.ensures

pub returns : goal.returns
returns c = c.subchannels.ensures ∙ sym (others_count (alone c.args.setup) _ (not_number _ _ c.takes_mask.ensures c.if-takes_mask.false))
