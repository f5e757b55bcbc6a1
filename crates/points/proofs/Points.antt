-- Points in buffers: what is put is there, and nothing else changes.
use Rattle.base.proofs.Prelude.{◌≡◌, refl, sym, ap, ap₂, ◌∙◌, List, ℕ, zero, suc, ◌+◌, ◌*◌, ◌/◌, ◌%◌, ◌<◌, arith, eqb, length, get_or, set, length-set}
use Rattle.base.proofs.Prelude.{replicate, eqb-true, eqb-false}
use Rattle.base.proofs.{Test.cases, Tabulate.{length_tabulate, get_d_tabulate, tabulated}}
use native.Mathlib.Nat.{add-zero, add-suc}
use lib.{ListN.get_or-replicate, Seq.{get_or-set_same, get_or-set_other}, Ieee.{Float, nan}}
use Rattle.base.specs.{Choice.pick, Tabulate.tabulate}
use Rattle.points.specs.{declared.Point.Point, Points.{zero32, zero_point, point_at, floats_of}, Model.{put_point, puts}}

-- ---- a buffer by its points

pub length_floats : (n : ℕ) (f : ℕ → Point) → length (floats_of n f) ≡ n * 2
unfolding floats_of
length_floats n f = length_tabulate (n * 2) _

pub point_floats : (n : ℕ) (f : ℕ → Point) (k : ℕ) → k < n → point_at (floats_of n f) k ≡ f k
unfolding floats_of point_at
point_floats n f k h = λ t. record { i = in_phase t; q = quadrature t }
  where
    float : ℕ → Float
    float j = pick (eqb (j % 2) 0) (f (j / 2)).i (f (j / 2)).q

    at : (j : ℕ) → j < n * 2 → get_or (tabulate (n * 2) float) j nan ≡ float j
    at j l = get_d_tabulate (n * 2) float j nan l

    even : float (k * 2) ≡ (f k).i
    even = let e₁ : k * 2 % 2 ≡ 0 = omega arith in let e₂ : k * 2 / 2 ≡ k = omega arith in rw (e₁, e₂)

    odd : float (k * 2 + 1) ≡ (f k).q
    odd = let e₁ : (k * 2 + 1) % 2 ≡ 1 = omega arith in let e₂ : (k * 2 + 1) / 2 ≡ k = omega arith in rw (e₁, e₂)

    in_phase : get_or (tabulate (n * 2) float) (k * 2) nan ≡ (f k).i
    in_phase = at (k * 2) (omega arith) ∙ even

    quadrature : get_or (tabulate (n * 2) float) (k * 2 + 1) nan ≡ (f k).q
    quadrature = at (k * 2 + 1) (omega arith) ∙ odd

-- a buffer of n points is known by its points
pub by_points : (l : List Float) (n : ℕ) (f : ℕ → Point) → length l ≡ n * 2 → ((k : ℕ) → k < n → point_at l k ≡ f k) → l ≡ floats_of n f
unfolding floats_of point_at
by_points l n f e h = tabulated nan l (n * 2) _ e float
  where
    float : (j : ℕ) → j < n * 2 → get_or l j nan ≡ pick (eqb (j % 2) 0) (f (j / 2)).i (f (j / 2)).q
    float j lt =
        let p = h (j / 2) (omega arith) in
        cases (eqb (j % 2) 0)
        (λ t. let z = eqb-true (j % 2) 0 t in let s : j / 2 * 2 ≡ j = omega arith in rw t (ap (λ (x : ℕ). get_or l x nan) (sym s) ∙ ap (λ (x : Point). x.i) p))
        (λ t. let z = eqb-false (j % 2) 0 t in let s : j / 2 * 2 + 1 ≡ j = omega arith in rw t (ap (λ (x : ℕ). get_or l x nan) (sym s) ∙ ap (λ (x : Point). x.q) p))

-- ---- one point put

pub length_put : (l : List Float) (n : ℕ) (p : Point) → length (put_point l n p) ≡ length l
unfolding put_point
length_put l n p = simp length-set

pub put_same : (l : List Float) (n : ℕ) (p : Point) → n * 2 + 1 < length l → point_at (put_point l n p) n ≡ p
unfolding put_point point_at
put_same l n p h = λ t. record { i = in_phase t; q = quadrature t }
  where
    in_phase : get_or (set (set l (n * 2) p.i) (n * 2 + 1) p.q) (n * 2) nan ≡ p.i
    in_phase = get_or-set_other (set l (n * 2) p.i) (n * 2 + 1) (n * 2) p.q nan (λ e. omega arith) ∙ get_or-set_same l (n * 2) p.i nan (omega arith)

    quadrature : get_or (set (set l (n * 2) p.i) (n * 2 + 1) p.q) (n * 2 + 1) nan ≡ p.q
    quadrature = get_or-set_same (set l (n * 2) p.i) (n * 2 + 1) p.q nan (rw (length-set l (n * 2) p.i) h)

pub put_other : (l : List Float) (n : ℕ) (p : Point) (k : ℕ) → (k ≡ n → ⊥) → point_at (put_point l n p) k ≡ point_at l k
unfolding put_point point_at
put_other l n p k ne = λ t. record { i = kept (k * 2) (λ e. omega arith) (λ e. omega arith) t; q = kept (k * 2 + 1) (λ e. omega arith) (λ e. omega arith) t }
  where
    kept : (j : ℕ) → (j ≡ n * 2 → ⊥) → (j ≡ n * 2 + 1 → ⊥) → get_or (set (set l (n * 2) p.i) (n * 2 + 1) p.q) j nan ≡ get_or l j nan
    kept j a b = get_or-set_other (set l (n * 2) p.i) (n * 2 + 1) j p.q nan b ∙ get_or-set_other l (n * 2) j p.i nan a

-- ---- many points put

module _ (place : ℕ → ℕ) (source : ℕ → Point) where
  pub length_puts : (m : ℕ) (l : List Float) → length (puts place source m l) ≡ length l
  unfolding puts
  length_puts zero l = refl
  length_puts (suc m) l = length_put (puts place source m l) (place m) (source m) ∙ length_puts m l

  -- a place that none of them has is as it was
  pub puts_miss : (m : ℕ) (l : List Float) (k : ℕ) → ((j : ℕ) → j < m → k ≡ place j → ⊥) → point_at (puts place source m l) k ≡ point_at l k
  unfolding puts
  puts_miss zero l k h = refl
  puts_miss (suc m) l k h =
      put_other (puts place source m l) (place m) (source m) k (h m (omega arith))
      ∙ puts_miss m l k (λ j lt. h j (omega arith))

  -- a place holds the point put there, where all that are put there are the same
  pub puts_hit : (m : ℕ) (l : List Float) (j : ℕ) → j < m → ((i : ℕ) → i < m → place j ≡ place i → source i ≡ source j) → place j * 2 + 1 < length l
      → point_at (puts place source m l) (place j) ≡ source j
  unfolding puts
  puts_hit zero l j lt same room = absurd (omega arith)
  puts_hit (suc m) l j lt same room =
      cases (eqb (place j) (place m))
      (λ t. let e = eqb-true (place j) (place m) t in
      ap (point_at (put_point (puts place source m l) (place m) (source m))) e
      ∙ put_same (puts place source m l) (place m) (source m) (rw (length_puts m l, ← e) room) ∙ same m (omega arith) e)
      (λ t. let ne = eqb-false (place j) (place m) t in
      put_other (puts place source m l) (place m) (source m) (place j) ne
      ∙ puts_hit m l j (lower j m lt (λ z. ne (ap place z))) (λ i h. same i (omega arith)) room)
    where
      lower : (a b : ℕ) → a < suc b → (a ≡ b → ⊥) → a < b
      lower a b h ne = omega arith

-- puts one after another
pub puts_more : (place : ℕ → ℕ) (source : ℕ → Point) (a m : ℕ) (l : List Float)
    → puts (λ j. place (a + j)) (λ j. source (a + j)) m (puts place source a l) ≡ puts place source (a + m) l
unfolding puts
puts_more place source a zero l = rw (add-zero a)
puts_more place source a (suc m) l = rw (add-suc a m) (ap (λ (x : List Float). put_point x (place (a + m)) (source (a + m))) (puts_more place source a m l))

-- the same puts, by another way to say the places and the source
pub puts_as : (place place' : ℕ → ℕ) (source source' : ℕ → Point) (m : ℕ) (l : List Float) → ((j : ℕ) → j < m → place j ≡ place' j)
    → ((j : ℕ) → j < m → source j ≡ source' j) → puts place source m l ≡ puts place' source' m l
unfolding puts
puts_as place place' source source' zero l e f = refl
puts_as place place' source source' (suc m) l e f =
    ap (λ (b : List Float). put_point b (place m) (source m)) (puts_as place place' source source' m l (λ j h. e j (omega arith)) (λ j h. f j (omega arith)))
    ∙ ap₂ (put_point (puts place' source' m l)) (e m (omega arith)) (f m (omega arith))

-- ---- a buffer cleared

pub point_cleared : (n k : ℕ) → k * 2 + 1 < n → point_at (replicate n zero32) k ≡ zero_point
unfolding point_at
point_cleared n k h =
    λ t. record {
      i = get_or-replicate n (k * 2) zero32 nan (omega arith) t;
      q = get_or-replicate n (k * 2 + 1) zero32 nan h t;
    }
