-- Tests that are computed, and facts from them.
use Rattle.base.proofs.Prelude.{◌≡◌, refl, sym, ◌∙◌, Bool, true, false, ℕ, ◌*◌, ◌<◌, ◌≤◌, arith, T, eqb, ltb, leb, lt-ltb, le-ltb, eq-eqb}
use Rattle.base.proofs.Prelude.{ne_eqb}
use mathlib.Core.Bool.{not, ◌&&◌}
use borrow.Author.Tests.{leb-true}
use Rattle.base.specs.Choice.{pick, is_up_to}

abbrev pub both : Bool → Bool → Bool
both true b = b
both false b = false

pub both_left : (a b : Bool) → T (both a b) → T a
both_left true b t = tt
both_left false b t = t

pub both_right : (a b : Bool) → T (both a b) → T b
both_right true b t = t
both_right false b t = absurd t

-- a test is true or false: the two cases, each with its equation
pub cases : {A : Type 0} (b : Bool) → (b ≡ true → A) → (b ≡ false → A) → A
cases true f g = f refl
cases false f g = g refl

pub failed : (b : Bool) → T (not b) → b ≡ false
failed true t = absurd t
failed false t = refl

pub true_false : true ≡ false → ⊥
true_false e = let z : ◌≡◌ {A = ℕ} 0 1 = cc in omega arith

-- two tests in one
pub both_true : (a b : Bool) → pick a b false ≡ true → (a ≡ true) × (b ≡ true)
both_true true b e = (refl, e)
both_true false b e = absurd (true_false (sym e))

-- two tests in one, as the code has them
pub and_is : (a b : Bool) → (a && b) ≡ pick a b false
and_is true b = refl
and_is false b = refl

pub and_of : {a b x y : Bool} → a ≡ x → b ≡ y → (a && b) ≡ pick x y false
and_of {x = x} {y = y} e e' = rw (e, e') (and_is x y)

-- a number of 1, 2, .., most is at most that
pub up_to : (most n : ℕ) → is_up_to most n ≡ true → n ≤ most
unfolding is_up_to
up_to most n e = leb-true n most (both_true (ltb 0 n) (leb n most) e).1

-- ---- A test as the code answers it, for `search`: by what a function told of it,
module _ {b : Bool} (t : Bool) (e : t ≡ b) where
  pub told_no : t ≡ false → b ≡ false
  told_no n = sym e ∙ n

  pub told_yes : t ≡ true → b ≡ true
  told_yes n = sym e ∙ n

-- by the bound that one gave,
module _ {m : ℕ} (n : ℕ) (e : n ≡ m) (s : ℕ) where
  pub not_below : n ≤ s → ltb s m ≡ false
  not_below h = rw (← e) (le-ltb s n h)

  pub is-below : s < n → ltb s m ≡ true
  is-below h = rw (← e) (lt-ltb s n h)

-- a number of times,
module _ (f m n : ℕ) (e : n ≡ m) (s : ℕ) where
  pub not_below_times : f * n ≤ s → ltb s (f * m) ≡ false
  not_below_times h = rw (← e) (le-ltb s (f * n) h)

  pub is_below_times : s < f * n → ltb s (f * m) ≡ true
  is_below_times h = rw (← e) (lt-ltb s (f * n) h)

  pub differs_times : (s ≡ f * n → ⊥) → eqb s (f * m) ≡ false
  differs_times h = rw (← e) (ne_eqb s (f * n) h)

  pub equals_times : s ≡ f * n → eqb s (f * m) ≡ true
  equals_times h = rw (← e) (eq-eqb s (f * n) h)

-- and two in one
module _ (a b : Bool) where
  pub first-no : a ≡ false → pick a b false ≡ false
  first-no e = rw e

  pub second_no : a ≡ true → b ≡ false → pick a b false ≡ false
  second_no e f = rw (e, f)

  pub two_yes : a ≡ true → b ≡ true → pick a b false ≡ true
  two_yes e f = rw (e, f)

pub ruleset tests = (told_no, told_yes, not_below, is-below, not_below_times, is_below_times, differs_times, equals_times, lt-ltb, le-ltb, eq-eqb, ne_eqb, first-no, second_no, two_yes)
