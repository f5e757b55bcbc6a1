use Rattle.base.proofs.{Prelude.{◌≡◌, sym, ap, ◌∙◌, ℕ, Bool, arith}, First.{none_more, first_is, first_none}}
use borrow.Author.Count.{below_none}
use Rattle.burst.specs.{declared.Burst.Burst, Burst.{is_covering}}
use Rattle.burst_owner.proofs.position.Goals as goal

-- what a burst of the list that was asked says
asked : {b b' : Burst} {t : Bool} (slot subchannel : ℕ) → b ≡ b' → t ≡ is_covering b slot subchannel → t ≡ is_covering b' slot subchannel
asked slot subchannel e f = f ∙ ap (λ (b : Burst). is_covering b slot subchannel) e

pub loop-i-init : goal.loop-i-init
loop-i-init c = below_none _

pub returns-then-is_covering : goal.returns-then-is_covering
returns-then-is_covering c =
    sym (first_is _ _ _ (omega (arith, c.loop-i-test.true)) c.loop-i.invariant (sym (asked _ _ c.burst_at.ensures c.is_covering.ensures) ∙ c.if-is_covering.true))

pub loop-i-preserved : goal.loop-i-preserved
loop-i-preserved c = none_more _ _ c.loop-i.invariant (sym (asked _ _ c.burst_at.ensures c.is_covering.ensures) ∙ c.if-is_covering.false)

pub returns : goal.returns
returns c = sym (first_none _ _ (λ k h. c.loop-i.invariant k (omega (arith, c.loop-i-test.false))))
