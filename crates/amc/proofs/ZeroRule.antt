-- The zero rule is a bijection: it takes the sums other than off to the elements other than zero, and `sum_of` takes them back.
use Rattle.base.proofs.{Prelude.{◌≡◌, refl, sym, ap, ◌∙◌, lit<, eqb, eqb-true, eqb-false, eq-eqb, ne_eqb}, Test.cases}
use Rattle.amc.specs.{Element.{Element, element, base_seven}, Map.{zero_rule, sum_of}}
use Rattle.amc.proofs.Digit.{Proper, same_number, digits_proper}

-- the two values of each
pub rule_zero : (o sum : Element) → base_seven sum ≡ 0 → zero_rule o sum ≡ o
unfolding zero_rule
rule_zero o sum e = rw (eq-eqb (base_seven sum) 0 e)

pub rule_other : (o sum : Element) → (base_seven sum ≡ 0 → ⊥) → zero_rule o sum ≡ sum
unfolding zero_rule
rule_other o sum ne = rw (ne_eqb (base_seven sum) 0 ne)

pub sum_off : (o e : Element) → base_seven e ≡ base_seven o → sum_of o e ≡ element 0 0
unfolding sum_of
sum_off o e q = rw (eq-eqb (base_seven e) (base_seven o) q)

pub sum_other : (o e : Element) → (base_seven e ≡ base_seven o → ⊥) → sum_of o e ≡ e
unfolding sum_of
sum_other o e ne = rw (ne_eqb (base_seven e) (base_seven o) ne)

module _ (o sum : Element) (p : Proper sum) (ne : base_seven sum ≡ base_seven o → ⊥) where
  pub sum_back : sum_of o (zero_rule o sum) ≡ sum
  sum_back =
      cases (eqb (base_seven sum) 0)
      (λ t. let z = eqb-true (base_seven sum) 0 t in
      ap (sum_of o) (rule_zero o sum z) ∙ sum_off o o refl ∙ same_number (element 0 0) sum (digits_proper 0 (lit< tt)) p (sym z))
      (λ t. ap (sum_of o) (rule_other o sum (eqb-false (base_seven sum) 0 t)) ∙ sum_other o sum ne)

  pub rule_nonzero : base_seven (zero_rule o sum) ≡ 0 → ⊥
  rule_nonzero e =
      cases (eqb (base_seven sum) 0)
      (λ t. let z = eqb-true (base_seven sum) 0 t in ne (z ∙ sym e ∙ ap base_seven (rule_zero o sum z)))
      (λ t. let z = eqb-false (base_seven sum) 0 t in z (sym (ap base_seven (rule_other o sum z)) ∙ e))

  pub rule_proper : Proper o → Proper (zero_rule o sum)
  rule_proper q =
      cases (eqb (base_seven sum) 0)
      (λ t. rw (rule_zero o sum (eqb-true (base_seven sum) 0 t)) q)
      (λ t. rw (rule_other o sum (eqb-false (base_seven sum) 0 t)) p)

module _ (o e : Element) (q : Proper o) (p : Proper e) (nz : base_seven e ≡ 0 → ⊥) where
  pub rule_back : zero_rule o (sum_of o e) ≡ e
  rule_back =
      cases (eqb (base_seven e) (base_seven o))
      (λ t. let z = eqb-true (base_seven e) (base_seven o) t in
      ap (zero_rule o) (sum_off o e z) ∙ rule_zero o (element 0 0) refl ∙ same_number o e q p (sym z))
      (λ t. ap (zero_rule o) (sum_other o e (eqb-false (base_seven e) (base_seven o) t)) ∙ rule_other o e nz)

  pub sum_not_off : base_seven (sum_of o e) ≡ base_seven o → ⊥
  sum_not_off h =
      cases (eqb (base_seven e) (base_seven o))
      (λ t. let z = eqb-true (base_seven e) (base_seven o) t in nz (z ∙ sym h ∙ ap base_seven (sum_off o e z)))
      (λ t. let z = eqb-false (base_seven e) (base_seven o) t in z (sym (ap base_seven (sum_other o e z)) ∙ h))

  pub sum_proper : Proper (sum_of o e)
  sum_proper =
      cases (eqb (base_seven e) (base_seven o))
      (λ t. rw (sum_off o e (eqb-true (base_seven e) (base_seven o) t)) (digits_proper 0 (lit< tt)))
      (λ t. rw (sum_other o e (eqb-false (base_seven e) (base_seven o) t)) p)
