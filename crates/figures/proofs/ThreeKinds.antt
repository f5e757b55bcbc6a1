-- At most three indices of AMC collide: a hit is one of three kinds, the first cell's zero rule, the second's, or equal sums, and each kind has one index at most.
use Rattle.base.proofs.Prelude.{◌≡◌, sym, ap, ◌∙◌, Bool, true, false, ℕ, suc, ◌+◌, ◌-◌, ◌%◌, ◌/◌, ◌<◌, ◌≤◌, arith, lit<, eqb, eqb-true, eqb-false}
use Rattle.base.proofs.Prelude.{eq-eqb}
use Rattle.base.proofs.{Test.cases, Perm.rotation}
use Rattle.base.specs.{Steps.{entry, unrotate}, Tabulate.tabulate}
use Rattle.amc.specs.{Table.positions, Element.{Element, element, base_seven, add, subtract, sequence}, Map.{off, element_of, traffic}}
use Rattle.amc.proofs.{Digit.{Proper, same_number, number_digits, add_proper, subtract_add}, Tables.powers, ZeroRule.rule_other}
use Rattle.amc.proofs.Law.{off_proper, turn_lt, traffic-number}
use Rattle.collision.specs.Collision.{count_of, amc_hit}
use Rattle.collision.proofs.Count.{one, one_le}
use Rattle.figures.proofs.{Count.{no_two_of, count_cover}, DifferenceTest.{distance, difference}}

abbrev turned : ℕ → ℕ → ℕ
turned cell j = (j + cell % 48) % 48

sum_at : ℕ → ℕ → Element
sum_at cell j = add (sequence (turned cell j)) (off cell)

-- each entry of P stands in one place
same_place : (i j : ℕ) → i < 48 → j < 48 → sequence i ≡ sequence j → i ≡ j
same_place i j hi hj e = sym (powers i hi).position ∙ ap (λ (x : Element). entry positions (base_seven x)) e ∙ (powers j hj).position

same_turn : (d i j : ℕ) → i < 48 → j < 48 → (i + d) % 48 ≡ (j + d) % 48 → i ≡ j
same_turn d i j hi hj e = omega arith

-- from one turn to another
onto : (p q j : ℕ) → p < 48 → q < 48 → (j + q) % 48 ≡ ((j + p) % 48 + suc ((q + 47 - p) % 48)) % 48
onto p q j hp hq = omega arith

-- the zero rule fires at index j
fires : ℕ → ℕ → Bool
fires cell j = eqb (base_seven (sum_at cell j)) 0

fires_once : (cell : ℕ) → cell < 2352 → (i j : ℕ) → i < 48 → j < 48 → fires cell i ≡ true → fires cell j ≡ true → i ≡ j
unfolding fires sum_at
fires_once cell range i j hi hj p q =
    let x = sequence (turned cell i) in
    let y = sequence (turned cell j) in
    let o = off cell in
    let e = same_number (add x o) (add y o) (add_proper x o) (add_proper y o) (eqb-true _ 0 p ∙ sym (eqb-true _ 0 q)) in
    same_turn (cell % 48) i j hi hj
    (same_place (turned cell i) (turned cell j) (turn_lt cell range i) (turn_lt cell range j)
    (sym (subtract_add x o (powers _ (turn_lt cell range i)).proper) ∙ ap (λ (s : Element). subtract s o) e ∙ subtract_add y o (powers _ (turn_lt cell range j)).proper))

-- both sums are the same at index j
agree : ℕ → ℕ → ℕ → Bool
agree a b j = eqb (base_seven (sum_at a j)) (base_seven (sum_at b j))

-- equal sums: the difference of the entries is that of the offsets
crossed_digit : (x y o p : ℕ) → x < 7 → p < 7 → (x + o) % 7 ≡ (y + p) % 7 → unrotate 7 y x ≡ unrotate 7 o p
crossed_digit x y o p hx hp e =
    let forward : (z : ℕ) → (z + y) % 7 ≡ x → (z + o) % 7 ≡ p = λ z q. omega arith in
    sym ((rotation 7 o (lit< tt)).back (unrotate 7 y x) (omega arith))
    ∙ ap (unrotate 7 o) (forward (unrotate 7 y x) ((rotation 7 y (lit< tt)).forth x hx))

crossed : (x y o p : Element) → Proper x → Proper p → add x o ≡ add y p → subtract x y ≡ subtract p o
unfolding add subtract
crossed x y o p hx hp e = λ i. element
    (crossed_digit x.high y.high o.high p.high hx.high_lt hp.high_lt (ap (λ (s : Element). s.high) e) i)
    (crossed_digit x.low y.low o.low p.low hx.low_lt hp.low_lt (ap (λ (s : Element). s.low) e) i)

same_offset : (x o p : Element) → Proper o → Proper p → add x o ≡ add x p → o ≡ p
unfolding add
same_offset x o p ho hp e =
    let digit : (x o p : ℕ) → o < 7 → p < 7 → (x + o) % 7 ≡ (x + p) % 7 → o ≡ p = λ x o p ho hp e. omega arith in
    λ i. element
    (digit x.high o.high p.high ho.high_lt hp.high_lt (ap (λ (s : Element). s.high) e) i)
    (digit x.low o.low p.low ho.low_lt hp.low_lt (ap (λ (s : Element). s.low) e) i)

module _ (a b : ℕ) (ha : a < 2352) (hb : b < 2352) (other : a ≡ b → ⊥) where
  agreed : (j : ℕ) → agree a b j ≡ true → sum_at a j ≡ sum_at b j
  unfolding agree sum_at
  agreed j e = same_number _ _ (add_proper _ _) (add_proper _ _) (eqb-true _ _ e)

  entries : (j : ℕ) → agree a b j ≡ true → subtract (sequence (turned a j)) (sequence (turned b j)) ≡ subtract (off b) (off a)
  unfolding sum_at
  entries j e =
      crossed (sequence (turned a j)) (sequence (turned b j)) (off a) (off b)
      (powers _ (turn_lt a ha j)).proper (off_proper b hb) (agreed j e)

  -- cells that turn P alike have different offsets, and then no sums agree
  never : (j : ℕ) → a % 48 ≡ b % 48 → agree a b j ≡ true → ⊥
  unfolding sum_at off
  never j same e =
      let o = same_offset (sequence (turned b j)) (off a) (off b) (off_proper a ha) (off_proper b hb)
      (ap (λ (r : ℕ). add (sequence ((j + r) % 48)) (off a)) (sym same) ∙ agreed j e) in
      let q : a / 48 ≡ b / 48 = sym (number_digits (a / 48)) ∙ ap base_seven o ∙ number_digits (b / 48) in
      other (omega arith)

  agree_once : (i j : ℕ) → i < 48 → j < 48 → agree a b i ≡ true → agree a b j ≡ true → i ≡ j
  agree_once i j hi hj p q =
      cases (eqb (a % 48) (b % 48))
      (λ e. absurd (never i (eqb-true (a % 48) (b % 48) e) p))
      (λ e. same_turn (a % 48) i j hi hj (turn (eqb-false (a % 48) (b % 48) e)))
    where
      -- how far P is turned from the one cell to the other, less 1
      d : ℕ
      d = (b % 48 + 47 - a % 48) % 48

      at : (j : ℕ) → agree a b j ≡ true → (a % 48 ≡ b % 48 → ⊥) → entry positions (base_seven (subtract (off b) (off a))) ≡ (turned a j + distance (suc d)) % 48
      at j e ne =
          let short : d < 47 = omega arith in
          let on = onto (a % 48) (b % 48) j (omega arith) (omega arith) in
          ap (λ (x : Element). entry positions (base_seven x)) (sym (entries j e) ∙ ap (λ (k : ℕ). subtract (sequence (turned a j)) (sequence k)) on)
          ∙ difference d (turned a j) short (turn_lt a ha j)

      turn : (a % 48 ≡ b % 48 → ⊥) → turned a i ≡ turned a j
      turn ne = same_turn (distance (suc d)) (turned a i) (turned a j) (turn_lt a ha i) (turn_lt a ha j) (sym (at i p ne) ∙ at j q ne)

  -- a hit is of one of the three kinds
  agrees : (j : ℕ) → fires a j ≡ false → fires b j ≡ false → amc_hit a b j ≡ true → agree a b j ≡ true
  unfolding amc_hit fires agree sum_at element_of
  agrees j p q e =
      eq-eqb _ _
      (sym (ap base_seven (rule_other (off a) (sum_at a j) (eqb-false _ 0 p)))
      ∙ sym (traffic-number a ha j)
      ∙ ap (λ (v : ℕ). v + 1) (eqb-true (traffic a j) (traffic b j) e)
      ∙ traffic-number b hb j
      ∙ ap base_seven (rule_other (off b) (sum_at b j) (eqb-false _ 0 q)))

  kinds : (j : ℕ) → one (amc_hit a b j) ≤ one (fires a j) + one (fires b j) + one (agree a b j)
  kinds j =
      cases (fires a j)
      (λ p. omega (arith, one_le (amc_hit a b j), ap one p))
      (λ p. cases (fires b j)
      (λ q. omega (arith, one_le (amc_hit a b j), ap one q))
      (λ q. cases (amc_hit a b j)
      (λ e. omega (arith, ap one e, ap one (agrees j p q e)))
      (λ e. omega (arith, ap one e))))

  pub at_most_three : count_of (tabulate 48 (amc_hit a b)) ≤ 3
  at_most_three =
      omega (
        arith,
        count_cover 48 (amc_hit a b) (fires a) (fires b) (agree a b) (λ j h. kinds j),
        no_two_of 48 (fires a) (fires_once a ha),
        no_two_of 48 (fires b) (fires_once b hb),
        no_two_of 48 (agree a b) agree_once,
      )
