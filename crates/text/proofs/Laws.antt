-- Laws of text in a buffer and of decimal digits.
use native.Mathlib.{Nat.{add-zero, add_assoc}, Numerals.add-one, Omega.arith}
use mathlib.Core.{Logic.{◌⊎◌, inl, inr, ⊎_elim}, Path.{◌≡◌, refl, sym, ap, ◌∙◌}, Bool.{Bool, true, false}}
use mathlib.Core.List.{List, [], ◌∷◌, ◌++◌, append_assoc, append-nil}
use lib.{Dec.ltb, ListN.{length, take, drop, set, length-append, take-append-drop}}
use lib.Seq.{set_split, append_snoc, take_at, drop_at, drop-drop, length-take-le}
use borrow.Author.Tests.{ltb-true, ltb-false, lt-ltb, le-ltb}
use Rattle.text.specs.Text.{digits, decimal, put, Put}
use Prim.Native.Nat.{ℕ, zero, suc, ◌+◌, ◌^◌, ◌/◌, ◌%◌, ◌<◌, ◌≤◌}

-- ---- digits

pub below : (x n : ℕ) → (x < n) ⊎ (n ≤ x)
below x n = by (ltb x n) refl
  where
    by : (b : Bool) → ltb x n ≡ b → (x < n) ⊎ (n ≤ x)
    by true e = inl (ltb-true x n e)
    by false e = inr (ltb-false x n e)

below_ten : (k x : ℕ) → x < 10 → digits k x ≡ (48 + x) ∷ []
unfolding digits
below_ten zero x h = refl
below_ten (suc k) x h = rw (lt-ltb x 10 h)

from_ten : (k x : ℕ) → 10 ≤ x → digits (suc k) x ≡ digits k (x / 10) ++ ((48 + x % 10) ∷ [])
unfolding digits
from_ten k x h = rw (le-ltb x 10 h)

-- more digits than needed make no difference
enough : (k j x : ℕ) → x ≤ k → x ≤ j → digits k x ≡ digits j x
enough zero j x h g = below_ten zero x (omega arith) ∙ sym (below_ten j x (omega arith))
enough (suc k) zero x h g = below_ten (suc k) x (omega arith) ∙ sym (below_ten zero x (omega arith))
enough (suc k) (suc j) x h g =
    ⊎_elim
    (λ small. below_ten (suc k) x small ∙ sym (below_ten (suc j) x small))
    (λ large. from_ten k x large ∙ ap (λ (l : List ℕ). l ++ ((48 + x % 10) ∷ [])) (enough k j (x / 10) (omega arith) (omega arith)) ∙ sym (from_ten j x large))
    (below x 10)

pub decimal_one : (x : ℕ) → x < 10 → decimal x ≡ (48 + x) ∷ []
unfolding decimal
decimal_one x h = below_ten x x h

pub decimal_more : (x : ℕ) → 10 ≤ x → decimal x ≡ decimal (x / 10) ++ ((48 + x % 10) ∷ [])
unfolding decimal
decimal_more zero h = absurd (omega arith)
decimal_more (suc k) h =
    from_ten k (suc k) h
    ∙ ap (λ (l : List ℕ). l ++ ((48 + suc k % 10) ∷ [])) (enough k (suc k / 10) (suc k / 10) (omega arith) (omega arith))

-- a number below 10 to the k + 1 has k + 1 digits at most
decimal_short : (k x : ℕ) → x < 10 ^ suc k → length (decimal x) ≤ suc k
decimal_short zero x h = rw (decimal_one x h) (omega arith)
decimal_short (suc k) x h =
    ⊎_elim
    (λ small. rw (decimal_one x small) (omega arith))
    (λ large. rw (decimal_more x large, length-append) (omega (arith, decimal_short k (x / 10) (omega arith))))
    (below x 10)

pub decimal_fits : (x : ℕ) → x < 2 ^ 64 → length (decimal x) ≤ 20
decimal_fits x h = decimal_short 19 x (omega arith)

-- two worked examples
decimal_0 : decimal 0 ≡ 48 ∷ []
unfolding decimal digits
decimal_0 = refl

decimal_2048 : decimal 2048 ≡ 50 ∷ 48 ∷ 52 ∷ 56 ∷ []
unfolding decimal digits
decimal_2048 = refl

-- ---- text in a buffer

-- a text with what stands before it
length_head : (dest : List ℕ) (at : ℕ) (text : List ℕ) → at ≤ length dest → length (take at dest ++ text) ≡ at + length text
length_head dest at text h = length-append (take at dest) text ∙ ap (λ (k : ℕ). k + length text) (length-take-le at dest h)

pub put_none : (dest : List ℕ) (at : ℕ) → put dest at [] ≡ dest
unfolding put
put_none dest at = rw (append-nil, add-zero) (take-append-drop at dest)

-- what stands before the place after a text
pub take_put : (dest : List ℕ) (at : ℕ) (text : List ℕ) → at ≤ length dest → take (at + length text) (put dest at text) ≡ take at dest ++ text
unfolding put
take_put dest at text h = take_at (take at dest ++ text) (drop (at + length text) dest) (at + length text) (length_head dest at text h)

drop_put : (dest : List ℕ) (at : ℕ) (text : List ℕ) → at ≤ length dest → drop (at + length text) (put dest at text) ≡ drop (at + length text) dest
unfolding put
drop_put dest at text h = drop_at (take at dest ++ text) (drop (at + length text) dest) (at + length text) (length_head dest at text h)

-- two texts in a row are one
pub put_put : (dest : List ℕ) (at : ℕ) (a b : List ℕ) → at ≤ length dest → put (put dest at a) (at + length a) b ≡ put dest at (a ++ b)
unfolding put
put_put dest at a b h =
    let end : ℕ = at + length a in
    let behind : drop (end + length b) (put dest at a) ≡ drop (end + length b) dest = sym (drop-drop (length b) end (put dest at a)) ∙ ap (drop (length b)) (drop_put dest at a h) ∙ drop-drop (length b) end dest in
    ap (λ (l : List ℕ). l ++ b ++ drop (end + length b) (put dest at a)) (take_put dest at a h)
    ∙ ap (λ (l : List ℕ). take at dest ++ a ++ b ++ l) behind
    ∙ rw (append_assoc (take at dest) a b, length-append, add_assoc at (length a) (length b))

-- ---- what the `put_` functions answer

-- a second text behind a first, a third and a fourth
pub put_then : {d d₁ d₂ : List ℕ} {at q r : ℕ} (a b : List ℕ) → at ≤ length d → Put d at a q d₁ → Put d₁ q b r d₂ → Put d at (a ++ b) r d₂
put_then {d} {at = at} a b h x y =
    record { next_is = omega (arith, x.next_is, y.next_is, length-append a b); after_is = y.after_is ∙ rw (x.after_is, x.next_is) (put_put d at a b h) }

pub put_three : {d d₁ d₂ d₃ : List ℕ} {at p q r : ℕ} (a b c : List ℕ) → at ≤ length d → Put d at a p d₁ → Put d₁ p b q d₂ → Put d₂ q c r d₃ → Put d at (a ++ (b ++ c)) r d₃
put_three a b c h x y z = rw (← append_assoc a b c) (put_then (a ++ b) c h (put_then a b h x y) z)

pub put_four : {d d₁ d₂ d₃ d₄ : List ℕ} {at p q r next : ℕ} (a b c e : List ℕ) → at ≤ length d → Put d at a p d₁ → Put d₁ p b q d₂ → Put d₂ q c r d₃ → Put d₃ r e next d₄
    → Put d at (a ++ (b ++ (c ++ e))) next d₄
put_four a b c e h w x y z = rw (← append_assoc a b (c ++ e)) (put_three (a ++ b) c e h (put_then a b h w x) y z)

pub one_byte : (dest : List ℕ) (at byte : ℕ) → at < length dest → Put dest at (byte ∷ []) (at + 1) (set dest at byte)
unfolding put
one_byte dest at byte h = record { next_is = refl; after_is = set_split dest at byte h ∙ sym (append_snoc (take at dest) byte (drop (suc at) dest)) ∙ rw add-one }

-- a number's last digit behind the others
pub length_more : (x : ℕ) → 10 ≤ x → length (decimal x) ≡ length (decimal (x / 10)) + 1
length_more x h = rw (decimal_more x h) (length-append (decimal (x / 10)) ((48 + x % 10) ∷ []))

pub one_digit : {d a : List ℕ} {at n x : ℕ} → x < 10 → Put d at ((48 + x) ∷ []) n a → Put d at (decimal x) n a
one_digit {x = x} h p = rw (decimal_one x h) p

pub more_digits : {d d₁ d₂ : List ℕ} {at m n : ℕ} (x : ℕ) → 10 ≤ x → at ≤ length d → Put d at (decimal (x / 10)) m d₁ → Put d₁ m ((48 + x % 10) ∷ []) n d₂ → Put d at (decimal x) n d₂
more_digits x h room first second = rw (decimal_more x h) (put_then (decimal (x / 10)) ((48 + x % 10) ∷ []) room first second)
