-- `runs::lit_runs` meets its contract.
use Rattle.modes.proofs.{Named.{is_number, not_number}, ByMode.in_pusc_dl}
use Rattle.runs.proofs.lit_runs.Goals as goal

pub lit_clusters-requires : goal.lit_clusters-requires
lit_clusters-requires c = ((in_pusc_dl c.requires.ranged (is_number _ _ c.takes_mask.ensures c.if-takes_mask.true)).cell_lt, c.requires.mask_bound)

pub returns-then-takes_mask : goal.returns-then-takes_mask
returns-then-takes_mask c e = c.lit_clusters.ensures

pub returns : goal.returns
returns c e = absurd (not_number _ _ c.takes_mask.ensures c.if-takes_mask.false e)
