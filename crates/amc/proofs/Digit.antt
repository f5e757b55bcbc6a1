-- Elements with digits below 7: their numbers in base seven, and addition, which is a rotation of each digit.
use Rattle.base.proofs.{Prelude.{◌≡◌, sym, ap, ◌∙◌, ℕ, ◌+◌, ◌/◌, ◌%◌, ◌<◌, arith, lit<}, Perm.rotation}
use Rattle.amc.specs.Element.{Element, element, base_seven, two_digits, add, subtract}

-- both digits are 0..6
pub record Proper (e : Element) : Type 0 where
  pub high_lt : e.high < 7
  pub low_lt : e.low < 7

pub number_lt : (e : Element) → Proper e → base_seven e < 49
number_lt e p = omega arith

pub digits_proper : (x : ℕ) → x < 49 → Proper (two_digits x)
digits_proper x h = omega arith

pub number_digits : (x : ℕ) → base_seven (two_digits x) ≡ x
number_digits x = omega arith

pub digits_number : (e : Element) → Proper e → two_digits (base_seven e) ≡ e
digits_number e p =
    let high : base_seven e / 7 ≡ e.high = omega arith in
    let low : base_seven e % 7 ≡ e.low = omega arith in
    λ i. element (high i) (low i)

pub same_number : (a b : Element) → Proper a → Proper b → base_seven a ≡ base_seven b → a ≡ b
same_number a b p q e = sym (digits_number a p) ∙ ap two_digits e ∙ digits_number b q

pub add_proper : (x o : Element) → Proper (add x o)
unfolding add
add_proper x o = omega arith

pub subtract_proper : (x o : Element) → Proper (subtract x o)
unfolding subtract
subtract_proper x o = omega arith

pub subtract_add : (x o : Element) → Proper x → subtract (add x o) o ≡ x
unfolding add subtract
subtract_add x o p = λ i. element ((rotation 7 o.high (lit< tt)).back x.high p.high_lt i) ((rotation 7 o.low (lit< tt)).back x.low p.low_lt i)

pub add_subtract : (x o : Element) → Proper x → add (subtract x o) o ≡ x
unfolding add subtract
add_subtract x o p = λ i. element ((rotation 7 o.high (lit< tt)).forth x.high p.high_lt i) ((rotation 7 o.low (lit< tt)).forth x.low p.low_lt i)

subtract_self : (o : Element) → Proper o → base_seven (subtract o o) ≡ 0
unfolding subtract
subtract_self o q = omega arith

zero-add : (o : Element) → Proper o → add (element 0 0) o ≡ o
unfolding add
zero-add o q =
    let high : (0 + o.high) % 7 ≡ o.high = omega arith in
    let low : (0 + o.low) % 7 ≡ o.low = omega arith in
    λ i. element (high i) (low i)

-- only zero leaves an element as it is
pub added_differs : (x o : Element) → Proper x → Proper o → (base_seven x ≡ 0 → ⊥) → base_seven (add x o) ≡ base_seven o → ⊥
added_differs x o p q ne e =
    ne (ap base_seven (sym (subtract_add x o p) ∙ ap (λ s. subtract s o) (same_number (add x o) o (add_proper x o) q e)) ∙ subtract_self o q)

pub subtracted_differs : (y o : Element) → Proper y → Proper o → (base_seven y ≡ base_seven o → ⊥) → base_seven (subtract y o) ≡ 0 → ⊥
subtracted_differs y o p q ne e =
    ne (ap base_seven (sym (add_subtract y o p) ∙ ap (λ x. add x o) (same_number (subtract y o) (element 0 0) (subtract_proper y o) (digits_proper 0 (lit< tt)) e) ∙ zero-add o q))
