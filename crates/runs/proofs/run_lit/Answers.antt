-- `runs::run_lit` meets its contract.
use Rattle.base.proofs.Prelude.{sym, ◌∙◌}
use Rattle.modes.proofs.Named.{is_number}
use Rattle.runs.specs.Model.{run_lit}
use Rattle.runs.proofs.run_lit.Goals as goal

pub bounds-lit-i : goal.bounds-lit-i
bounds-lit-i c = c.requires (is_number _ _ c.takes_mask.ensures c.if-takes_mask.true)

pub returns-then-takes_mask : goal.returns-then-takes_mask
unfolding run_lit
returns-then-takes_mask c = rw (sym c.takes_mask.ensures ∙ c.if-takes_mask.true) c.from.ensures

pub returns : goal.returns
unfolding run_lit
returns c = rw (sym c.takes_mask.ensures ∙ c.if-takes_mask.false)
