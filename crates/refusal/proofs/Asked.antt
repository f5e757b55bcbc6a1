-- What a question comes to where it is put with `?`.
use Rattle.std.proofs.Common.{◌≡◌, refl, ap, ◌∙◌, Bool, true, false, ℕ, arith, Result, Ok, Err}
use Rattle.base.proofs.Prelude.{ltb, eqb, ◌*◌}
use Rattle.std.specs.Result.{IsErrAnd}
use Rattle.std.proofs.lemmas.Result.{err_from_is_err_and}
use Rattle.base.specs.{Answer.{Answer, accepted, refused, ask, refusal_of}}
use Rattle.refusal.specs.declared.Refusal.{Refusal}
use Rattle.refusal.specs.declared.Refusal.TheVariants as no
use Rattle.refusal.specs.Refusal.{number_of, answer_of, refusal_in}

-- no question has the number 0
pub number_ne0 : (e : Refusal) → number_of e ≡ 0 → ⊥
number_ne0 no.Mode h = omega arith
number_ne0 no.Size h = omega arith
number_ne0 no.Cell h = omega arith
number_ne0 no.Slot h = omega arith
number_ne0 no.Subchannel h = omega arith
number_ne0 no.Index h = omega arith
number_ne0 no.Carrier h = omega arith
number_ne0 no.Points h = omega arith
number_ne0 no.Grid h = omega arith
number_ne0 no.Cut h = omega arith
number_ne0 no.Form h = omega arith
number_ne0 no.Count h = omega arith
number_ne0 no.Slots h = omega arith
number_ne0 no.Order h = omega arith
number_ne0 no.Rest h = omega arith
number_ne0 no.Room h = omega arith
number_ne0 no.Mask h = omega arith
number_ne0 no.Burst h = omega arith
number_ne0 no.Overlap h = omega arith
number_ne0 no.Pilots h = omega arith

-- what a `?` returns is the refusal that it met: as an answer, and by its number
module _ {A : Type 0} (r : Result A Refusal) (e : Refusal) (f : IsErrAnd r (λ y. y ≡ e)) where
  pub answer_on : (a : Answer A) → refused (number_of e) ≡ a → answer_of r ≡ a
  answer_on a h = let p = err_from_is_err_and r f in rw (p.1, p.2) h

  pub number_on : (n : ℕ) → number_of e ≡ n → refusal_in r ≡ n
  number_on n h = let p = err_from_is_err_and r f in rw (p.1, p.2) h

pub refusal_on : {A : Type 0} (r : Result A Refusal) (e : Refusal) → IsErrAnd r (λ y. y ≡ e) → refusal_in r ≡ number_of e
refusal_on r e f = number_on r e f _ refl

-- by what a result says, its number
pub number_in : {A : Type 0} (r : Result A Refusal) → refusal_in r ≡ refusal_of (answer_of r)
number_in (Ok a) = refl
number_in (Err e) = refl

-- a question that was put: its test and its number
pub asked_no : (b : Bool) (k n : ℕ) → refused n ≡ ask {A = Unit {0}} b k (accepted tt) → (b ≡ false) × (n ≡ k)
asked_no true k n h = absurd (cc)
asked_no false k n h = (refl, cc)

pub asked_yes : (b : Bool) (k : ℕ) (x : Unit {0}) → accepted x ≡ ask b k (accepted tt) → b ≡ true
asked_yes true k x h = refl
asked_yes false k x h = absurd (cc)

-- ---- A function that puts its questions one after the other, for `search`. The test of the code is that of the definition.

module _ {A : Type 0} (b : Bool) (k : ℕ) {test : Bool} (e : b ≡ test) (rest : Answer A) where
  pub no_asked : (n : ℕ) → refused n ≡ ask {A = Unit {0}} b k (accepted tt) → refused n ≡ ask test k rest
  no_asked n h = let p = asked_no b k n h in rw (← e, p.0, p.1)

  pub yes_asked : (x : Unit {0}) → accepted x ≡ ask b k (accepted tt) → (a : Answer A) → a ≡ rest → a ≡ ask test k rest
  yes_asked x h a f = rw (← e, asked_yes b k x h) f

  -- the same of its number
  pub no_number : (n : ℕ) → refused n ≡ ask {A = Unit {0}} b k (accepted tt) → n ≡ refusal_of (ask test k rest)
  no_number n h = let p = asked_no b k n h in rw (← e, p.0, p.1)

  pub yes_number : (x : Unit {0}) → accepted x ≡ ask b k (accepted tt) → (n : ℕ) → n ≡ refusal_of rest → n ≡ refusal_of (ask test k rest)
  yes_number x h n f = rw (← e, asked_yes b k x h) f

-- the last question, whose result is returned as it is
module _ (b : Bool) (k : ℕ) {test : Bool} (e : b ≡ test) (r : Result (Unit {0}) Refusal) (h : answer_of r ≡ ask b k (accepted tt)) where
  pub last_asked : answer_of r ≡ ask test k (accepted tt)
  last_asked = rw (← e) h

  pub last_number : refusal_in r ≡ refusal_of (ask {A = Unit {0}} test k (accepted tt))
  last_number = number_in r ∙ ap refusal_of last_asked

-- what bounds a number, as a function gave it
pub same_below : {n m : ℕ} (s : ℕ) → n ≡ m → ltb s n ≡ ltb s m
same_below s e = rw e

pub same_below_times : (f : ℕ) {n m : ℕ} (s : ℕ) → n ≡ m → ltb s (f * n) ≡ ltb s (f * m)
same_below_times f s e = rw e

pub same_times : (f : ℕ) {n m : ℕ} (s : ℕ) → n ≡ m → eqb s (f * n) ≡ eqb s (f * m)
same_times f s e = rw e

pub ruleset asked = (answer_on, no_asked, yes_asked, last_asked, same_below, same_below_times, same_times)

pub ruleset asked_number = (number_on, no_number, yes_number, last_number, same_below, same_below_times, same_times)
