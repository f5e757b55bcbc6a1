-- `plan::are_unused` meets its contract.
use Rattle.base.proofs.{Prelude.{refl, sym, ◌∙◌, rules}, Test.{told_no, told_yes}}
use Rattle.plan.proofs.Places.{length_mapped, unused_next, unused_no, unused_end}
use Rattle.plan.proofs.are_unused.Goals as goal

pub loop-k-init : goal.loop-k-init
loop-k-init c = (search (length_mapped, rules) depth 8, refl)

pub returns-then-not-is_unused : goal.returns-then-not-is_unused
returns-then-not-is_unused c =
    let inv = c.loop-k.invariant in
    sym (unused_no _ _ inv.0 c.loop-k-test.true (told_no _ c.is_unused.ensures c.if-not-is_unused.true)) ∙ inv.1

pub loop-k-preserved : goal.loop-k-preserved
loop-k-preserved c =
    let inv = c.loop-k.invariant in
    (inv.0, unused_next _ _ inv.0 c.loop-k-test.true (told_yes _ c.is_unused.ensures c.if-not-is_unused.false) ∙ inv.1)

pub returns : goal.returns
returns c = let inv = c.loop-k.invariant in sym (unused_end _ _ inv.0 c.loop-k-test.false) ∙ inv.1
