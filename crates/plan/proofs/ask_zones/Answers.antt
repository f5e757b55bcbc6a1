-- `plan::ask_zones` meets its contract.
use Rattle.base.proofs.Prelude.{refl, ◌∙◌}
use Rattle.refusal.proofs.Asked.{number_on}
use Rattle.plan.proofs.Judge.{zones_no, zones_next, zones_end}
use Rattle.plan.proofs.ask_zones.Goals as goal

pub loop-zone-init : goal.loop-zone-init
loop-zone-init c = refl

pub returns-in_err-ask_zone : goal.returns-in_err-ask_zone
returns-in_err-ask_zone c =
    number_on _ _ c.from_residual.ensures.1 _ (zones_no _ _ _ _ c.loop-zone-test.true _ c.in_err-ask_zone.ensures ∙ c.loop-zone.invariant)

pub loop-zone-preserved : goal.loop-zone-preserved
loop-zone-preserved c = zones_next _ _ _ _ c.loop-zone-test.true c.in_ok-ask_zone.ensures ∙ c.loop-zone.invariant

pub returns : goal.returns
returns c = zones_end _ _ _ _ c.loop-zone-test.false ∙ c.loop-zone.invariant
