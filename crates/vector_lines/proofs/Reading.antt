-- Laws of numbers read from text.
use native.Mathlib.{Numerals.add-one, Omega.arith}
use mathlib.Core.{Logic.{◌⊎◌, inl, inr, ⊎_elim}, Path.{◌≡◌, refl, sym, ap, ◌∙◌}, Bool.{Bool, true, false}, List.{List, [], ◌∷◌}}
use lib.{ListN.{length, get_or, drop, drop_of_length-le, get_or-eq_default}, Seq.drop-cons, Dec.eqb}
use borrow.Author.Tests.{lt-ltb, le-ltb, ltb-true, ltb-false}
use Rattle.std.proofs.Common.{Some, None, ltb, min, ◌^◌}
use Rattle.std.specs.List.{prefix_len}
use Rattle.vector_lines.specs.Model.{numeral, digit_of, as_digit, with_digit, read_on, past_spaces}
use Prim.Native.Nat.{ℕ, suc, ◌+◌, ◌-◌, ◌*◌, ◌<◌, ◌≤◌}

-- a test, and where a place stands
cases : {A : Type 0} (b : Bool) → (b ≡ true → A) → (b ≡ false → A) → A
cases true f g = f refl
cases false f g = g refl

below : (place n : ℕ) → (place < n) ⊎ (n ≤ place)
below place n = cases (ltb place n) (λ t. inl (ltb-true place n t)) (λ f. inr (ltb-false place n f))

pub digit_low : (byte : ℕ) → byte < 48 → digit_of byte ≡ 10
unfolding digit_of
digit_low byte h = rw (lt-ltb byte 48 h)

pub digit_high : (byte : ℕ) → 57 < byte → digit_of byte ≡ 10
unfolding digit_of
digit_high byte h = rw (le-ltb byte 48 (omega arith), lt-ltb 57 byte h)

pub digit_in : (byte : ℕ) → 48 ≤ byte → byte ≤ 57 → digit_of byte ≡ byte - 48
unfolding digit_of
digit_in byte h g = rw (le-ltb byte 48 h, le-ltb 57 byte g)

-- past the end there is no digit
pub digit_past : (src : List ℕ) (at : ℕ) → length src ≤ at → digit_of (get_or src at 0) ≡ 10
digit_past src at past = ap digit_of (get_or-eq_default src 0 past) ∙ digit_low 0 (omega arith)

-- as the code tells it
module _ (byte at-place : ℕ) (e : byte ≡ at-place) where
  pub none_out : (byte < 48) ⊎ ((48 ≤ byte) × (57 < byte)) → None ≡ as_digit (digit_of at-place)
  unfolding as_digit
  none_out h = ⊎_elim (λ low. rw (← e, digit_low byte low)) (λ high. rw (← e, digit_high byte high.1)) h

  pub some_in : 48 ≤ byte → byte ≤ 57 → (digit : ℕ) → digit ≡ byte - 48 → Some digit ≡ as_digit (digit_of at-place)
  unfolding as_digit
  some_in h g digit f = rw (← e, digit_in byte h g, lt-ltb (byte - 48) 10 (omega arith), f)

pub none_past : (src : List ℕ) (at : ℕ) → length src ≤ at → None ≡ as_digit (digit_of (get_or src at 0))
unfolding as_digit
none_past src at past = rw (digit_past src at past)

-- what a digit, or none, says of the byte
module _ (digit : ℕ) where
  pub digit_told : (d : ℕ) → Some d ≡ as_digit digit → (digit ≡ d) × (d < 10)
  unfolding as_digit
  digit_told d e =
      cases (ltb digit 10)
      (λ t. let z : Some d ≡ Some digit = rw t at e in let is : digit ≡ d = cc in (is, omega (arith, ltb-true digit 10 t, is)))
      (λ f. let z : Some d ≡ None = rw f at e in absurd cc)

  pub none_told : None ≡ as_digit digit → 10 ≤ digit
  unfolding as_digit
  none_told e =
      cases (ltb digit 10)
      (λ t. let z : None ≡ Some digit = rw t at e in absurd cc)
      (λ f. omega (arith, ltb-false digit 10 f))

read_digit : (value next byte : ℕ) (rest : List ℕ) → digit_of byte < 10
    → read_on value next (byte ∷ rest) ≡ read_on (with_digit value (digit_of byte)) (suc next) rest
unfolding read_on
read_digit value next byte rest h = rw (lt-ltb (digit_of byte) 10 h)

read_other : (value next byte : ℕ) (rest : List ℕ) → 10 ≤ digit_of byte → read_on value next (byte ∷ rest) ≡ numeral value next
unfolding read_on
read_other value next byte rest h = rw (le-ltb (digit_of byte) 10 h)

read_none : (value next : ℕ) → read_on value next [] ≡ numeral value next
unfolding read_on
read_none value next = refl

-- a digit more, as the code adds it
pub saturates : (value digit wide sum : ℕ) → wide ≡ min (value * 10) (2 ^ 64 - 1) → sum ≡ min (wide + digit) (2 ^ 64 - 1) → sum ≡ with_digit value digit
unfolding with_digit
saturates value digit wide sum e f = omega arith

-- a turn of the reading loop: the source goes on, with a digit more
module _ (src : List ℕ) (value next d : ℕ) (e : Some d ≡ as_digit (digit_of (get_or src next 0))) where
  pub within : next < length src
  within =
      let t = digit_told _ d e in
      ⊎_elim (λ inside. inside) (λ past. absurd (omega (arith, t.0, t.1, digit_past src next past))) (below next (length src))

  pub reads_on : (sum : ℕ) → sum ≡ with_digit value d → read_on sum (next + 1) (drop (next + 1) src) ≡ read_on value next (drop next src)
  reads_on sum f =
      let t = digit_told _ d e in
      let is : digit_of (get_or src next 0) ≡ d = t.0 in
      sym (ap (read_on value next) (drop-cons src next 0 within)
      ∙ read_digit value next (get_or src next 0) (drop (suc next) src) (rw is t.1)
      ∙ rw (is, ← f, add-one))

-- the reading loop at its end: no digit more
pub reads_end : (src : List ℕ) (value next : ℕ) → None ≡ as_digit (digit_of (get_or src next 0))
    → numeral value next ≡ read_on value next (drop next src)
reads_end src value next e =
    sym
    (⊎_elim
    (λ inside. ap (read_on value next) (drop-cons src next 0 inside) ∙ read_other value next (get_or src next 0) (drop (suc next) src) (none_told _ e))
    (λ past. ap (read_on value next) (drop_of_length-le src past) ∙ read_none value next)
    (below next (length src)))

-- the spaces that a text starts with are as many as `take_while` counts
pub spaces_counted : (at : ℕ) (text : List ℕ) → at + prefix_len (λ byte. eqb byte 32) text ≡ past_spaces at text
unfolding past_spaces
spaces_counted at [] = omega arith
spaces_counted at (byte ∷ rest) = cases (eqb byte 32) (λ t. rw t (omega (arith, spaces_counted (suc at) rest))) (λ f. rw f (omega arith))

-- no text begins past the end
pub beyond : {n at : ℕ} → (n < at) ⊎ (n < n) → n ≤ at
beyond h = ⊎_elim (λ past. omega arith) (λ none. omega arith) h

pub no_spaces : (src : List ℕ) (at : ℕ) → length src ≤ at → at ≡ past_spaces at (drop at src)
unfolding past_spaces
no_spaces src at past = sym (ap (past_spaces at) (drop_of_length-le src past))
