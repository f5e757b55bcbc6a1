-- A loop that writes one entry of each half of a list a turn.
use Rattle.base.proofs.Prelude.{◌≡◌, ap, ◌∙◌, List, ℕ, ◌+◌, ◌-◌, ◌<◌, ◌≤◌, arith, ltb, length, get_or, set, length-set}
use Rattle.base.proofs.Prelude.{ltb-true, ltb-false}
use Rattle.base.proofs.{Tabulate.tabulated, Test.cases}
use lib.Seq.{get_or-set_same, get_or-set_other}
use borrow.Author.Count.{below_more}
use Rattle.base.specs.Tabulate.{tabulate}

-- a list of n + n entries: the first i of each half are those of f
pub record Halves (n : ℕ) (f : ℕ → ℕ) (l : List ℕ) (i : ℕ) : Type 0 where
  pub within : i ≤ n
  pub long : length l ≡ n + n
  pub entries : (k : ℕ) → k < i → (get_or l k 0 ≡ f k) × (get_or l (k + n) 0 ≡ f (k + n))

pub halves_next : {n : ℕ} {f : ℕ → ℕ} {l : List ℕ} {i : ℕ} → Halves n f l i → i < n → (x y : ℕ) → x ≡ f i → y ≡ f (i + n) → Halves n f (set (set l i x) (i + n) y) (i + 1)
halves_next {n = n} {f = f} {l = l} {i = i} w h x y e e' =
    let once = set l i x in
    let long₁ : length once ≡ n + n = length-set l i x ∙ w.long in
    let other : (k : ℕ) → (k ≡ i → ⊥) → (k ≡ i + n → ⊥) → get_or (set once (i + n) y) k 0 ≡ get_or l k 0 =
    λ k n₁ n₂. get_or-set_other once (i + n) k y 0 n₂ ∙ get_or-set_other l i k x 0 n₁ in
    record {
      within = omega arith;
      long = length-set once (i + n) y ∙ long₁;
      entries = below_more (λ k. (get_or (set once (i + n) y) k 0 ≡ f k) × (get_or (set once (i + n) y) (k + n) 0 ≡ f (k + n))) i
          (λ k k_lt. (
            other k (λ q. omega arith) (λ q. omega arith) ∙ (w.entries k k_lt).0,
            other (k + n) (λ q. omega arith) (λ q. omega arith) ∙ (w.entries k k_lt).1,
          )) (
            get_or-set_other once (i + n) i y 0 (λ q. omega arith) ∙ get_or-set_same l i x 0 (omega (arith, w.long)) ∙ e,
            get_or-set_same once (i + n) y 0 (omega (arith, long₁)) ∙ e',
          );
    }

pub halves_all : {n : ℕ} {f : ℕ → ℕ} {l : List ℕ} {i : ℕ} → Halves n f l i → n ≤ i → l ≡ tabulate (n + n) f
halves_all {n = n} {f = f} {l = l} {i = i} w h = tabulated 0 l (n + n) f w.long at
  where
    at : (k : ℕ) → k < n + n → get_or l k 0 ≡ f k
    at k k_lt =
        cases (ltb k n)
        (λ e. (w.entries k (omega (arith, ltb-true k n e))).0)
        (λ e. let le = ltb-false k n e in
        let q : k ≡ k - n + n = omega arith in
        ap (λ (j : ℕ). get_or l j 0) q ∙ (w.entries (k - n) (omega arith)).1 ∙ ap f (omega arith))
