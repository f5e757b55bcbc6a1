-- Everything that specs/Law.antt states.
use Rattle.base.proofs.{Prelude.{sym, ap, ◌∙◌, arith}, Chain.same_accepted}
use Rattle.plan.proofs.Judge.{fit_first}
use Rattle.plan_read.specs.Read.{plan_of}
use Rattle.plan_write.specs.Law.{PlanLaw}
use Rattle.plan_write.proofs.Round.{plan-of, same_bytes, same_plan, read_51}
use Rattle.plan_read.proofs.Decide.{first_bytes}

pub plan_law : PlanLaw
plan_law =
    record {
      same_bytes = same_bytes;
      same_plan = same_plan;
      one_string = λ s t plan b c e q. sym ((plan-of s e).bytes.same b) ∙ (plan-of t q).bytes.same c;
      one_plan = λ p q d₁ d₂ after₁ after₂ n₁ n₂ l m e g h. same_accepted (sym (same_plan p d₁ after₁ n₁ l e) ∙ ap plan_of h ∙ same_plan q d₂ after₂ n₂ m g);
      never_opens = λ s plan e. fit_first (plan-of s e).fit;
      at_most_51 = read_51;
      first_102_decide = λ s. first_bytes 102 s (omega arith);
      first_128_decide = λ s. first_bytes 128 s (omega arith);
    }
