-- What two cells add in group k, as a polynomial of 2^k: the first sequence goes by 2^k, the second by its square, and different cells have different coefficients.
use Rattle.base.proofs.Prelude.{◌≡◌, refl, sym, ap, ap₂, ◌∙◌, ℕ, zero, suc, ◌+◌, ◌-◌, ◌*◌, ◌/◌, ◌%◌, ◌<◌, mod-lt, div-add-mod', div-lt_iff_lt-mul}
use Rattle.base.proofs.Prelude.{arith, eqb, ltb, eqb-true, eqb-false, ne_eqb, ltb-true, ltb-false}
use Rattle.base.proofs.Test.{cases}
use native.Mathlib.Nat.{pos_of_ne-zero}
use lib.Bits.{bit_xor}
use Rattle.base.specs.Choice.{pick}
use Rattle.ofusc.specs.{Field.{times, power, p1, p2}, Map.{term, cell_term}}
use Rattle.ofusc.proofs.Sequence.{term_zero, term_entry}
use Rattle.figures.proofs.Field.{shift, Doubling, xor_swap, xor_zero, shift_lt, shift_sum, shift_add, shift_mod, shift_zero, shift_back, still}
use Rattle.figures.proofs.Field.{still_twice, three}

power_shift : (n i : ℕ) → power n 2 i ≡ shift n i 1
unfolding power shift
power_shift n zero = refl
power_shift n (suc i) = ap (times n 2) (power_shift n i)

-- the coefficients that c1 and c2 give
abbrev coefficient₁ : ℕ → ℕ → ℕ
coefficient₁ n c = pick (eqb c 0) 0 (shift n c 1)

abbrev coefficient₂ : ℕ → ℕ → ℕ
coefficient₂ n c = pick (eqb c 0) 0 (shift n (c + c) 1)

module _ {n : ℕ} (F : Doubling n) where
  one_lt : 1 < n
  one_lt = let l = F.above in omega arith

  -- entry (k'+c) mod (N-1)
  turned : (k c x : ℕ) → x < n → shift n ((k % (n - 1) + c) % (n - 1)) x ≡ shift n (k + c) x
  turned k c x h = rw (shift_mod F (k % (n - 1) + c) x h, shift_add F (k % (n - 1)) c x, shift_mod F k (shift n c x) (shift_lt F c x h), shift_add F k c x)

  term₁ : (c k : ℕ) → term (p1 n) n c k ≡ shift n k (coefficient₁ n c)
  unfolding p1
  term₁ c k =
      cases (eqb c 0)
      (λ e. term_zero (p1 n) n c k (eqb-true c 0 e) ∙ rw e (sym (shift_zero F k)))
      (λ e. term_entry (p1 n) n c k (eqb-false c 0 e) ∙ rw e (power_shift n ((k % (n - 1) + c) % (n - 1)) ∙ turned k c 1 one_lt ∙ shift_add F k c 1))

  twice : (e x : ℕ) → x < n → shift n (2 * e % (n - 1)) x ≡ shift n e (shift n e x)
  twice e x h =
      let double : 2 * e ≡ e + e = omega arith in
      rw (shift_mod F (2 * e) x h, double, shift_add F e e x)

  term₂ : (c k : ℕ) → term (p2 n) n c k ≡ shift n (k + k) (coefficient₂ n c)
  unfolding p1 p2
  term₂ c k =
      let at : ℕ = (k % (n - 1) + c) % (n - 1) in
      let sorted : k + c + (k + c) ≡ k + k + (c + c) = omega arith in
      cases (eqb c 0)
      (λ e. term_zero (p2 n) n c k (eqb-true c 0 e) ∙ rw e (sym (shift_zero F (k + k))))
      (λ e. term_entry (p2 n) n c k (eqb-false c 0 e)
      ∙ rw e
      (power_shift n (2 * at % (n - 1)) ∙ twice at 1 one_lt ∙ turned k c (shift n at 1) (shift_lt F at 1 one_lt)
      ∙ rw (turned k c 1 one_lt, ← shift_add F (k + c) (k + c) 1, sorted, shift_add F (k + k) (c + c) 1)))

  -- different numbers give different coefficients
  apart : (r : ℕ → ℕ) → ((c : ℕ) → r c ≡ 0 → ⊥) → ((c h : ℕ) → 0 < h → h < n - 1 → r c ≡ r (c + h) → ⊥)
      → (c d : ℕ) → c < d → d < n → pick (eqb c 0) 0 (r c) ≡ pick (eqb d 0) 0 (r d) → ⊥
  apart r nonzero moves c d l h e =
      let up : d ≡ c + (d - c) = omega arith in
      let e' = rw (ne_eqb d 0 (λ z. omega arith)) at e in
      cases (eqb c 0)
      (λ z. nonzero d (sym (rw z at e')))
      (λ z. moves c (d - c) (omega arith) (let p = pos_of_ne-zero (eqb-false c 0 z) in omega arith) ((rw z at e') ∙ ap r up))

  same : (r : ℕ → ℕ) → ((c : ℕ) → r c ≡ 0 → ⊥) → ((c h : ℕ) → 0 < h → h < n - 1 → r c ≡ r (c + h) → ⊥)
      → (c d : ℕ) → c < n → d < n → pick (eqb c 0) 0 (r c) ≡ pick (eqb d 0) 0 (r d) → c ≡ d
  same r nonzero moves c d hc hd e =
      cases (ltb c d)
      (λ l. absurd (apart r nonzero moves c d (ltb-true c d l) hd e))
      (λ l. cases (ltb d c)
      (λ g. absurd (apart r nonzero moves d c (ltb-true d c g) hc (sym e)))
      (λ g. let p = ltb-false c d l in let q = ltb-false d c g in omega arith))

  one_zero : ◌≡◌ {A = ℕ} 1 0 → ⊥
  one_zero e = omega arith

  nonzero : (i : ℕ) → shift n i 1 ≡ 0 → ⊥
  nonzero i e = one_zero (shift_back F i 1 0 one_lt (let l = one_lt in omega arith) (e ∙ sym (shift_zero F i)))

  same₁ : (c d : ℕ) → c < n → d < n → coefficient₁ n c ≡ coefficient₁ n d → c ≡ d
  same₁ = same (λ c. shift n c 1) nonzero
      (λ c h pos l e. one_zero (still F h 1 pos l one_lt
      (sym (shift_back F c 1 (shift n h 1) one_lt (shift_lt F h 1 one_lt) (e ∙ shift_add F c h 1)))))

  same₂ : (c d : ℕ) → c < n → d < n → coefficient₂ n c ≡ coefficient₂ n d → c ≡ d
  same₂ =
      let sorted : (c h : ℕ) → c + h + (c + h) ≡ c + c + (h + h) = λ c h. omega arith in
      same (λ c. shift n (c + c) 1) (λ c. nonzero (c + c))
      (λ c h pos l e. one_zero (still_twice F h 1 pos l one_lt
      (sym (shift_back F (c + c) 1 (shift n (h + h) 1) one_lt (shift_lt F (h + h) 1 one_lt)
      (e ∙ ap (λ (t : ℕ). shift n t 1) (sorted c h) ∙ shift_add F (c + c) (h + h) 1)))))

  chosen_lt : (c x : ℕ) → x < n → pick (eqb c 0) 0 x < n
  chosen_lt c x h = cases (eqb c 0) (λ e. rw e (let l = one_lt in omega arith)) (λ e. rw e h)

  -- two cells: the coefficients of their difference
  module _ (a b : ℕ) where
    abbrev A : ℕ
    A = bit_xor (coefficient₁ n (a % n)) (coefficient₁ n (b % n))

    abbrev B : ℕ
    B = bit_xor (coefficient₂ n (a / n)) (coefficient₂ n (b / n))

    lt₁ : (c : ℕ) → coefficient₁ n c < n
    lt₁ c = chosen_lt c (shift n c 1) (shift_lt F c 1 one_lt)

    lt₂ : (c : ℕ) → coefficient₂ n c < n
    lt₂ c = chosen_lt c (shift n (c + c) 1) (shift_lt F (c + c) 1 one_lt)

    A-lt : A < n
    A-lt = F.closed _ _ (lt₁ (a % n)) (lt₁ (b % n))

    B-lt : B < n
    B-lt = F.closed _ _ (lt₂ (a / n)) (lt₂ (b / n))

    -- what they add in group k differs by A·2^k + B·2^2k
    difference : (k : ℕ) → bit_xor (cell_term n a k) (cell_term n b k) ≡ bit_xor (shift n k A) (shift n (k + k) B)
    unfolding cell_term
    difference k =
        let a₁ = coefficient₁ n (a % n) in
        let b₁ = coefficient₁ n (b % n) in
        let a₂ = coefficient₂ n (a / n) in
        let b₂ = coefficient₂ n (b / n) in
        rw (term₁ (a % n) k, term₂ (a / n) k, term₁ (b % n) k, term₂ (b / n) k, shift_sum F k a₁ b₁ (lt₁ (a % n)) (lt₁ (b % n)), shift_sum F (k + k) a₂ b₂ (lt₂ (a / n)) (lt₂ (b / n)))
        (xor_swap (shift n k a₁) (shift n (k + k) a₂) (shift n k b₁) (shift n (k + k) b₂))

    -- in group k + i, seen from group k
    onward : (k i : ℕ) → bit_xor (cell_term n a (k + i)) (cell_term n b (k + i)) ≡ bit_xor (shift n i (shift n k A)) (shift n (i + i) (shift n (k + k) B))
    onward k i =
        let swapped : k + i ≡ i + k = omega arith in
        let sorted : k + i + (k + i) ≡ i + i + (k + k) = omega arith in
        rw (difference (k + i), sorted, swapped, shift_add F i k A, shift_add F (i + i) (k + k) B)

    -- the same difference in three of N-1 groups in a row: it is one cell
    pub three_groups : a < n * n → b < n * n → (d k i j : ℕ) → 0 < i → i < j → j < n - 1
        → bit_xor (cell_term n a k) (cell_term n b k) ≡ d → bit_xor (cell_term n a (k + i)) (cell_term n b (k + i)) ≡ d → bit_xor (cell_term n a (k + j)) (cell_term n b (k + j)) ≡ d → a ≡ b
    three_groups ha hb d k i j h l g e eᵢ eⱼ =
        let zero_lt : 0 < n = let o = one_lt in omega arith in
        let gone : (i x : ℕ) → x < n → shift n i x ≡ 0 → x ≡ 0 = λ i x hx q. shift_back F i x 0 hx zero_lt (q ∙ sym (shift_zero F i)) in
        let z = three F (shift n k A) (shift n (k + k) B) (shift_lt F k A A-lt) (shift_lt F (k + k) B B-lt) i j h l g
        (sym (difference k) ∙ e ∙ sym eᵢ ∙ onward k i) (sym (difference k) ∙ e ∙ sym eⱼ ∙ onward k j) in
        sym (div-add-mod' a n)
        ∙ ap₂ (λ (q r : ℕ). q * n + r)
        (same₂ (a / n) (b / n) ((div-lt_iff_lt-mul zero_lt).1 ha) ((div-lt_iff_lt-mul zero_lt).1 hb) (xor_zero _ _ (gone (k + k) B B-lt z.1)))
        (same₁ (a % n) (b % n) (mod-lt a zero_lt) (mod-lt b zero_lt) (xor_zero _ _ (gone k A A-lt z.0)))
        ∙ div-add-mod' b n
