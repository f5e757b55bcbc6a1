-- A chain of questions: what it does to the answer that comes after it.
use Rattle.base.proofs.Prelude.{◌≡◌, refl, sym, ap, ◌∙◌, Bool, true, false, List, [], ◌∷◌, ◌++◌, ℕ, zero, suc, arith, T, eqb, eq-eqb, ne_eqb}
use Rattle.base.proofs.Prelude.{eqb-true, eqb-false}
use Rattle.base.proofs.Test.{cases, tests}
use Rattle.base.specs.{Choice.pick, Answer.{Answer, accepted, refused, ask, refusal_of}}

-- where a request is accepted, each question was answered yes
pub ask_yes : {A : Type 0} (b : Bool) (k : ℕ) (rest : Answer A) {a : A} → ask b k rest ≡ accepted a → (b ≡ true) × (rest ≡ accepted a)
ask_yes true k rest e = (refl, e)
ask_yes false k rest e = absurd (let z : ◌≡◌ {A = ℕ} 0 1 = cc in omega arith)

pub same_accepted : {A : Type 0} {a b : A} → accepted a ≡ accepted b → a ≡ b
same_accepted e = cc

-- the refusal of a number, or what comes after the chain where the number is 0
abbrev pub numbered : {A : Type 0} → ℕ → Answer A → Answer A
numbered n rest = pick (eqb n 0) rest (refused n)

module _ {A : Type 0} (n : ℕ) (rest : Answer A) where
  pub yes_all : n ≡ 0 → numbered n rest ≡ rest
  yes_all e = rw (eq-eqb n 0 e)

  pub no_first : (n ≡ 0 → ⊥) → numbered n rest ≡ refused n
  no_first h = rw (ne_eqb n 0 h)

-- the number of a chain before an accepted answer is the chain's own
pub number_is : {A : Type 0} (n : ℕ) (a : A) → refusal_of (numbered n (accepted a)) ≡ n
number_is n a = cases (eqb n 0) (λ e. rw e (sym (eqb-true n 0 e))) (λ e. rw e)

-- where it is accepted, the number is 0
pub number_none : {A : Type 0} (n : ℕ) (rest : Answer A) {a : A} → numbered n rest ≡ accepted a → (n ≡ 0) × (rest ≡ accepted a)
number_none n rest e =
    cases (eqb n 0)
    (λ t. (eqb-true n 0 t, rw t at e))
    (λ t. absurd (let h = rw t at e in let z : ◌≡◌ {A = ℕ} 0 1 = cc in omega arith))

-- its number is 0 only where that of what comes after it is
pub numbered_zero : {A : Type 0} (n : ℕ) (rest : Answer A) → refusal_of (numbered n rest) ≡ 0 → (n ≡ 0) × (refusal_of rest ≡ 0)
numbered_zero n rest e =
    cases (eqb n 0)
    (λ t. (eqb-true n 0 t, rw t at e))
    (λ f. absurd (eqb-false n 0 f (rw f at e)))

-- a chain of which a function gave the number
module _ {A : Type 0} {chain : Answer A} (rest : Answer A) (k : ℕ) {n : ℕ} (is : chain ≡ numbered k rest) (e : n ≡ k) where
  pub chain_no : (n ≡ 0 → ⊥) → chain ≡ refused n
  chain_no h = is ∙ ap (λ (m : ℕ). numbered m rest) (sym e) ∙ no_first n rest h

  pub chain_yes : n ≡ 0 → chain ≡ rest
  chain_yes h = is ∙ ap (λ (m : ℕ). numbered m rest) (sym e) ∙ yes_all n rest h

-- ---- A CHAIN AS A LIST: its tests, each with the number of a no. A chain of `ask` is one by computation.

abbrev pub Questions : Type 0
Questions = List (Bool × ℕ)

abbrev pub ask_all : {A : Type 0} (questions : Questions) (rest : Answer A) → Answer A
ask_all [] rest = rest
ask_all (q ∷ qs) rest = ask q.0 q.1 (ask_all qs rest)

-- the number of the first that is answered no, 0 where none is
abbrev pub first_no : (questions : Questions) → ℕ
first_no qs = refusal_of (ask_all {A = Unit {0}} qs (accepted tt))

abbrev pub AllYes : (questions : Questions) → Type 0
AllYes [] = Unit {0}
AllYes (q ∷ qs) = (q.0 ≡ true) × AllYes qs

-- no question has the number 0
abbrev pub counted : (questions : Questions) → Bool
counted [] = true
counted ((b, zero) ∷ qs) = false
counted ((b, suc k) ∷ qs) = counted qs

-- before any answer it is the refusal of its first no, or that answer
pub all_numbered : {A : Type 0} (qs : Questions) → T (counted qs) → (rest : Answer A) → ask_all qs rest ≡ numbered (first_no qs) rest
all_numbered [] t rest = refl
all_numbered ((b, zero) ∷ qs) t rest = absurd t
all_numbered ((true, suc k) ∷ qs) t rest = all_numbered qs t rest
all_numbered ((false, suc k) ∷ qs) t rest = rw (ne_eqb (suc k) 0 (λ z. omega arith))

-- 0 means all yes
pub all_yes : (qs : Questions) → T (counted qs) → first_no qs ≡ 0 → AllYes qs
all_yes [] t z = tt
all_yes ((b, zero) ∷ qs) t z = absurd t
all_yes ((true, suc k) ∷ qs) t z = (refl, all_yes qs t z)
all_yes ((false, suc k) ∷ qs) t z = absurd (omega arith)

-- of one chain after another
pub yes_parts : (qs rs : Questions) → AllYes (qs ++ rs) → AllYes qs × AllYes rs
yes_parts [] rs y = (tt, y)
yes_parts (q ∷ qs) rs y = let p = yes_parts qs rs y.1 in ((y.0, p.0), p.1)

pub yes_both : (qs rs : Questions) → AllYes qs → AllYes rs → AllYes (qs ++ rs)
yes_both [] rs y z = z
yes_both (q ∷ qs) rs y z = (y.0, yes_both qs rs y.1 z)

-- where the answer is a value, all were answered yes and what comes after gave it
pub all_accepted : {A : Type 0} (qs : Questions) (rest : Answer A) {a : A} → ask_all qs rest ≡ accepted a → AllYes qs × (rest ≡ accepted a)
all_accepted [] rest e = (tt, e)
all_accepted (q ∷ qs) rest e =
    let y = ask_yes q.0 q.1 (ask_all qs rest) e in
    let p = all_accepted qs rest y.1 in
    ((y.0, p.0), p.1)

pub all_pass : {A : Type 0} (qs : Questions) (rest : Answer A) → AllYes qs → rest ≡ ask_all qs rest
all_pass [] rest y = refl
all_pass (q ∷ qs) rest y = rw y.0 (all_pass qs rest y.1)

-- before what comes after it, by the number that a function gave
module _ {A : Type 0} (qs : Questions) (t : T (counted qs)) (rest : Answer A) (k : ℕ) (e : k ≡ first_no qs) where
  pub is_refused : (k ≡ 0 → ⊥) → refused k ≡ ask_all qs rest
  is_refused ne = sym (chain_no rest (first_no qs) (all_numbered qs t rest) e ne)

  pub has_passed : k ≡ 0 → rest ≡ ask_all qs rest
  has_passed z = sym (chain_yes rest (first_no qs) (all_numbered qs t rest) e z)

-- ---- A function that returns at the first no, for `search`: each question before it was answered yes.

module _ {A : Type 0} (b : Bool) (k : ℕ) (rest : Answer A) where
  pub no_here : b ≡ false → refused k ≡ ask b k rest
  no_here e = rw e

  pub yes_then : b ≡ true → (a : Answer A) → a ≡ rest → a ≡ ask b k rest
  yes_then e a f = rw e f

  -- the same of its number
  pub number_here : b ≡ false → k ≡ refusal_of (ask b k rest)
  number_here e = rw e

  pub number_then : b ≡ true → (n : ℕ) → n ≡ refusal_of rest → n ≡ refusal_of (ask b k rest)
  number_then e n f = rw e f

pub ruleset by_answer = (no_here, yes_then, tests)

pub ruleset by_number = (number_here, number_then, tests)
