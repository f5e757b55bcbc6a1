-- Counting marks, and sums.
use Rattle.base.proofs.Prelude.{◌≡◌, refl, sym, ap, ◌∙◌, Bool, true, false, List, [], ◌∷◌, ◌++◌, ℕ, zero, suc, ◌+◌, ◌*◌, ◌<◌, ◌≤◌, arith, eqb, ltb}
use Rattle.base.proofs.Prelude.{length, take, drop, eqb-true, eqb-false, ne_eqb, ltb-true, ltb-false}
use Rattle.base.proofs.{Test.{cases, true_false}, Tabulate.{length_tabulate, get_d_tabulate}}
use native.Mathlib.Nat.{le_of_suc-le-suc, zero-mul, suc-mul}
use lib.{Arith.lt_of_le-ne, ListN.{length-take, length-drop, take-append-drop, get_or-eq_default}, Seq.{get_or-take, get_or-drop, drop-drop}}
use Rattle.base.specs.Tabulate.{tabulate}
use Rattle.collision.specs.Collision.{count_of}
use Rattle.collision.proofs.Count.{one}
use Rattle.figures.specs.Word.{Marked, in_row, sum}

-- every mark is set, or none
pub count_all : (n : ℕ) (hit : ℕ → Bool) → ((k : ℕ) → k < n → hit k ≡ true) → count_of (tabulate n hit) ≡ n
unfolding tabulate count_of
count_all zero hit h = refl
count_all (suc n) hit h = omega (arith, ap one (h 0 (omega arith)), count_all n (λ k. hit (suc k)) (λ k l. h (suc k) (omega arith)))

pub count_none : (n : ℕ) (hit : ℕ → Bool) → ((k : ℕ) → k < n → hit k ≡ false) → count_of (tabulate n hit) ≡ 0
unfolding tabulate count_of
count_none zero hit h = refl
count_none (suc n) hit h = omega (arith, ap one (h 0 (omega arith)), count_none n (λ k. hit (suc k)) (λ k l. h (suc k) (omega arith)))

-- a list with no mark set, with no two, with no three
none_set : (hits : List Bool) → ((i : ℕ) → Marked hits i → ⊥) → count_of hits ≡ 0
unfolding count_of
none_set [] h = refl
none_set (false ∷ hits) h = omega (arith, none_set hits (λ i. h (suc i)))
none_set (true ∷ hits) h = absurd (h 0 refl)

no_two : (hits : List Bool) → ((i j : ℕ) → i < j → Marked hits i → Marked hits j → ⊥) → count_of hits ≤ 1
unfolding count_of
no_two [] h = omega arith
no_two (false ∷ hits) h = omega (arith, no_two hits (λ i j l. h (suc i) (suc j) (omega arith)))
no_two (true ∷ hits) h = omega (arith, none_set hits (λ i. h 0 (suc i) (omega arith) refl))

pub no_three : (hits : List Bool) → ((i j m : ℕ) → i < j → j < m → Marked hits i → Marked hits j → Marked hits m → ⊥) → count_of hits ≤ 2
unfolding count_of
no_three [] h = omega arith
no_three (false ∷ hits) h = omega (arith, no_three hits (λ i j m l g. h (suc i) (suc j) (suc m) (omega arith) (omega arith)))
no_three (true ∷ hits) h = omega (arith, no_two hits (λ i j l. h 0 (suc i) (suc j) (omega arith) (omega arith) refl))

-- where a mark is set within a row, it is set in the whole
pub marked_in_row : (many k : ℕ) (hits : List Bool) (i : ℕ) → Marked (in_row many k hits) i → (i < many) × Marked hits (k + i)
marked_in_row many k hits i e =
    cases (ltb i many)
    (λ t. let l = ltb-true i many t in (l, sym (get_or-drop k hits i false) ∙ sym (get_or-take many (drop k hits) i false l) ∙ e))
    (λ t. absurd (true_false (sym e ∙ get_or-eq_default (in_row many k hits) false (omega (arith, ltb-false i many t, length-take many (drop k hits))))))

count_append : (xs ys : List Bool) → count_of (xs ++ ys) ≡ count_of xs + count_of ys
unfolding count_of
count_append [] ys = omega arith
count_append (x ∷ xs) ys = omega (arith, count_append xs ys)

-- a list of so many rows has so many times a row's marks at most
pub count_rows : (many limit rows : ℕ) (hits : List Bool) → length hits ≤ rows * many → ((k : ℕ) → count_of (in_row many k hits) ≤ limit) → count_of hits ≤ rows * limit
unfolding count_of
count_rows many limit zero [] h f = omega arith
count_rows many limit zero (x ∷ hits) h f = absurd (omega (arith, zero-mul many))
count_rows many limit (suc rows) hits h f =
    let later : (k : ℕ) → count_of (in_row many k (drop many hits)) ≤ limit = λ k. rw (drop-drop k many hits) (f (many + k)) in
    omega (
      arith,
      ap count_of (take-append-drop many hits),
      count_append (take many hits) (drop many hits),
      f 0,
      count_rows many limit rows (drop many hits) (omega (arith, length-drop many hits, suc-mul rows many)) (λ k. later k),
      suc-mul rows limit,
    )

-- sums over 0..n-1
pub sum_same : (n : ℕ) (f g : ℕ → ℕ) → ((t : ℕ) → t < n → f t ≡ g t) → sum n f ≡ sum n g
unfolding sum
sum_same zero f g h = refl
sum_same (suc n) f g h = omega (arith, h n (omega arith), sum_same n f g (λ t l. h t (omega arith)))

sum_add : (n : ℕ) (f g : ℕ → ℕ) → sum n (λ t. f t + g t) ≡ sum n f + sum n g
unfolding sum
sum_add zero f g = refl
sum_add (suc n) f g = omega (arith, sum_add n f g)

sum_zero : (n : ℕ) (f : ℕ → ℕ) → ((t : ℕ) → t < n → f t ≡ 0) → sum n f ≡ 0
unfolding sum
sum_zero zero f h = refl
sum_zero (suc n) f h = omega (arith, h n (omega arith), sum_zero n f (λ t l. h t (omega arith)))

-- one of 0..n-1 is x
pub sum_one : (n x : ℕ) → x < n → sum n (λ t. one (eqb t x)) ≡ 1
unfolding sum
sum_one zero x h = absurd (omega arith)
sum_one (suc n) x h =
    cases (eqb n x)
    (λ e. omega (arith, ap one e, sum_zero n (λ t. one (eqb t x)) (λ t l. ap one (ne_eqb t x (λ q. omega (arith, eqb-true n x e))))))
    (λ e. omega (arith, ap one e, sum_one n x (lt_of_le-ne (le_of_suc-le-suc h) (λ q. eqb-false n x e (sym q)))))

-- marks in columns: where each column has one mark in all rows together, the rows have as many marks as there are columns
pub columns : (n m : ℕ) (hit : ℕ → ℕ → Bool) → ((k : ℕ) → k < m → sum n (λ t. one (hit t k)) ≡ 1) → sum n (λ t. count_of (tabulate m (hit t))) ≡ m
unfolding tabulate count_of
columns n zero hit h = sum_zero n (λ t. 0) (λ t l. refl)
columns n (suc m) hit h =
    omega (
      arith,
      sum_add n (λ t. one (hit t 0)) (λ t. count_of (tabulate m (λ k. hit t (suc k)))),
      h 0 (omega arith),
      columns n m (λ t k. hit t (suc k)) (λ k l. h (suc k) (omega arith)),
    )

-- a mark of a tabulated list
pub marked_at : (n : ℕ) (hit : ℕ → Bool) (k : ℕ) → Marked (tabulate n hit) k → (k < n) × (hit k ≡ true)
marked_at n hit k e =
    cases (ltb k n)
    (λ t. let l = ltb-true k n t in (l, sym (get_d_tabulate n hit k false l) ∙ e))
    (λ t. absurd (true_false (sym e ∙ get_or-eq_default (tabulate n hit) false (omega (arith, ltb-false k n t, length_tabulate n hit)))))

pub no_two_of : (n : ℕ) (hit : ℕ → Bool) → ((i j : ℕ) → i < n → j < n → hit i ≡ true → hit j ≡ true → i ≡ j) → count_of (tabulate n hit) ≤ 1
no_two_of n hit h =
    no_two (tabulate n hit)
    (λ i j l p q. let a = marked_at n hit i p in let b = marked_at n hit j q in omega (arith, h i j a.0 b.0 a.1 b.1))

-- marks that three kinds of marks cover
pub count_cover : (n : ℕ) (hit f g h : ℕ → Bool) → ((k : ℕ) → k < n → one (hit k) ≤ one (f k) + one (g k) + one (h k))
    → count_of (tabulate n hit) ≤ count_of (tabulate n f) + count_of (tabulate n g) + count_of (tabulate n h)
unfolding tabulate count_of
count_cover zero hit f g h c = omega arith
count_cover (suc n) hit f g h c =
    omega (arith, c 0 (omega arith), count_cover n (λ k. hit (suc k)) (λ k. f (suc k)) (λ k. g (suc k)) (λ k. h (suc k)) (λ k l. c (suc k) (omega arith)))
