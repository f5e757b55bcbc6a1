use Rattle.base.proofs.Prelude.{refl}
use Rattle.refusal.proofs.Asked.{answer_on}
use Rattle.plan.specs.Plan.{in_places}
use Rattle.plan_read.proofs.Step.{begin, zone_none, zone_refused, again, too_long, whole}
use Rattle.plan_read.proofs.zones_at.Goals as goal

pub loop-k-init : goal.loop-k-init
unfolding in_places
loop-k-init c = begin _ _ _ _ refl

pub returns-in_err-found : goal.returns-in_err-found
returns-in_err-found c = answer_on _ _ c.from_residual.ensures.1 _ (zone_none c.loop-k.invariant c.loop-k-test.true _ c.in_err-found.ensures)

pub returns-in_err-ask_zone : goal.returns-in_err-ask_zone
returns-in_err-ask_zone c =
    answer_on _ _ c.from_residual-in_err-ask_zone.ensures.1 _
    (zone_refused c.loop-k.invariant c.loop-k-test.true _ c.in_ok-found.ensures _ c.in_err-ask_zone.ensures)

pub loop-k-preserved : goal.loop-k-preserved
loop-k-preserved c = again c.loop-k.invariant c.loop-k-test.true _ c.in_ok-found.ensures c.in_ok-ask_zone.ensures c.requires

pub returns-in_err-ask : goal.returns-in_err-ask
returns-in_err-ask c = answer_on _ _ c.from_residual-in_err-ask.ensures.1 _ (too_long c.loop-k.invariant c.loop-k-test.false c.in_err-ask.ensures)

pub returns : goal.returns
returns c = whole c.loop-k.invariant c.loop-k-test.false c.in_ok-ask.ensures
