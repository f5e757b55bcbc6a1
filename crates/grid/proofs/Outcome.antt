-- The outcome of a call with a buffer, by the number that its questions come to.
use Rattle.base.proofs.{Prelude.{◌≡◌, refl, sym, ap, ◌∙◌, List, ℕ}, Chain.{numbered, yes_all, no_first, number_is}}
use lib.Ieee.{Float}
use Rattle.base.specs.Answer.{Answer, accepted, refused, refusal_of}
use Rattle.grid.specs.Grid.{Outcome, outcome}

-- an outcome's number is that of its answer
outcome_refusal : (a : Answer (List Float)) (old : List Float) → (outcome a old).refusal ≡ refusal_of a
outcome_refusal (accepted new) old = refl
outcome_refusal (refused k) old = refl

module _ (number : ℕ) (chain : Answer (List Float)) (defined : List Float) (law : chain ≡ numbered number (accepted defined)) (old : List Float) where
  -- a refusal leaves the buffer
  pub refused_leaves : (k : ℕ) → k ≡ number → (k ≡ 0 → ⊥) → record { refusal = k; buffer = old } ≡ outcome chain old
  refused_leaves k e ne =
      let first : chain ≡ refused k = law ∙ ap (λ (n : ℕ). numbered n (accepted defined)) (sym e) ∙ no_first k (accepted defined) ne in
      sym (ap (λ (a : Answer (List Float)). outcome a old) first)

  -- an accepted request has it anew
  anew : number ≡ 0 → outcome chain old ≡ record { refusal = 0; buffer = defined }
  anew z = ap (λ (a : Answer (List Float)). outcome a old) (law ∙ yes_all number (accepted defined) z)

  pub accepted_anew : number ≡ 0 → (new : List Float) → new ≡ defined → record { refusal = 0; buffer = new } ≡ outcome chain old
  accepted_anew z new e = ap (λ (l : List Float). record { refusal = 0; buffer = l }) e ∙ sym (anew z)

  pub accepted_number : number ≡ 0 → (outcome chain old).refusal ≡ 0
  accepted_number z = ap (λ (o : Outcome). o.refusal) (anew z)

  -- a call that answers 0 was accepted, and left what is defined
  pub left : (new : List Float) → outcome chain old ≡ record { refusal = 0; buffer = new } → (number ≡ 0) × (new ≡ defined)
  left new e =
      let z : number ≡ 0 =
      sym (number_is number defined) ∙ sym (ap refusal_of law) ∙ sym (outcome_refusal chain old) ∙ ap (λ (o : Outcome). o.refusal) e in
      (z, sym (ap (λ (o : Outcome). o.buffer) e) ∙ ap (λ (o : Outcome). o.buffer) (anew z))
