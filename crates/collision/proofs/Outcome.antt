-- What the calls' inner functions ask and give.
use Rattle.base.proofs.Prelude.{◌≡◌, refl, sym, ap, ◌∙◌, Bool, true, ℕ, ◌*◌, ◌/◌, ◌≤◌, arith}
use Rattle.std.proofs.Common.{Result}
use Rattle.std.specs.Result.{IsErrAnd}
use Rattle.std.proofs.lemmas.Result.{err_from_is_err_and}
use Rattle.base.specs.Answer.{Answer, accepted, refused, ask}
use Rattle.refusal.specs.{declared.Refusal.Refusal, Refusal.number_of}
use Rattle.refusal.proofs.Asked.{asked_yes}
use Rattle.ofusc.specs.Width.{Width, n4, n8, n16, n32}
use Rattle.modes.specs.Question.{is_four_sizes}
use Rattle.modes.proofs.Accept.{Sized, sized, four_sizes, width_is}
use Rattle.collision.specs.{declared.Collisions.Collisions, Collision.{ofusc_hit, answer_of, met}}

-- N of an accepted size, and its cells
pub record Wide (size : ℕ) : Type 0 where
  pub is_width : Width (size / 64)
  pub size_is : 64 * (size / 64) ≡ size
  pub few : size / 64 * (size / 64) ≤ 1024

pub wide : (size : ℕ) → is_four_sizes size ≡ true → Wide size
wide size e = from (four_sizes size e)
  where
    few_cells : {n : ℕ} → Width n → n * n ≤ 1024
    few_cells n4 = omega arith
    few_cells n8 = omega arith
    few_cells n16 = omega arith
    few_cells n32 = omega arith

    from : {z : ℕ} → Sized z → Wide z
    from (sized {n = n} w) = record { is_width = rw (width_is n) w; size_is = rw (width_is n); few = rw (width_is n) (few_cells w) }

pub asked_wide : (size : ℕ) (t : Bool) → t ≡ is_four_sizes size → (x : Unit {0}) → accepted x ≡ ask t 2 (accepted tt) → Wide size
asked_wide size t e x h = wide size (sym e ∙ asked_yes t 2 x h)

-- what a result says where the questions come to that: the refusal that a `?` met, or an answer that a function gave
module _ (r : Result Collisions Refusal) (y : Answer (ℕ → Bool)) where
  pub met_on : (e : Refusal) → IsErrAnd r (λ x. x ≡ e) → refused (number_of e) ≡ y → met r ≡ answer_of y
  unfolding answer_of
  met_on e f h = let p = err_from_is_err_and r f in rw (p.1, ← h, p.2) refl

  pub met_by : (x : Answer (ℕ → Bool)) → met r ≡ answer_of x → x ≡ y → met r ≡ answer_of y
  met_by x e f = e ∙ ap answer_of f

pub same_size : (size a s b t : ℕ) → is_four_sizes size ≡ true → accepted (ofusc_hit (64 * (size / 64)) a s b t) ≡ accepted (ofusc_hit size a s b t)
same_size size a s b t e = ap (λ (z : ℕ). accepted (ofusc_hit z a s b t)) (wide size e).size_is
