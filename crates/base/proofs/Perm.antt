-- A permutation of 0..n-1 with its inverse; the rotation, and the composition of two.
use Rattle.base.proofs.Prelude.{◌≡◌, sym, ap, ◌∙◌, ℕ, ◌+◌, ◌-◌, ◌*◌, ◌/◌, ◌%◌, ◌<◌, ◌≤◌, mod-lt, div-add-mod', arith}
use native.Mathlib.Nat.{mod-eq_of_lt, mod-eq-sub-mod, mod-add-mod, add-mul-mod_self_right, add_assoc, add-mul, one-mul}
use Rattle.base.specs.Steps.{rotate, unrotate}

pub record Perm (n : ℕ) (to from : ℕ → ℕ) : Type 0 where
  pub to_lt : (x : ℕ) → x < n → to x < n
  pub from_lt : (y : ℕ) → y < n → from y < n
  pub back : (x : ℕ) → x < n → from (to x) ≡ x
  pub forth : (y : ℕ) → y < n → to (from y) ≡ y

-- first f, then g
pub compose : {n : ℕ} {f f' g g' : ℕ → ℕ} → Perm n f f' → Perm n g g' → Perm n (λ x. g (f x)) (λ y. f' (g' y))
compose {n} {f} {f'} {g} {g'} p q =
    record {
      to_lt = λ x h. q.to_lt (f x) (p.to_lt x h);
      from_lt = λ y h. p.from_lt (g' y) (q.from_lt y h);
      back = λ x h. ap f' (q.back (f x) (p.to_lt x h)) ∙ p.back x h;
      forth = λ y h. ap g (p.forth (g' y) (q.from_lt y h)) ∙ q.forth y h;
    }

-- a number below 2n by one comparison
pub reduced : (n x : ℕ) → n ≤ x → x < n + n → (x - n ≡ x % n) × (x - n < n)
reduced n x le h = let lt : x - n < n = omega arith in (sym (mod-eq-sub-mod le ∙ mod-eq_of_lt lt), lt)

-- c and what it lacks to the next multiple of n make whole turns
turns : (n c : ℕ) → 0 < n → c + (n - c % n) ≡ (c / n + 1) * n
turns n c pos =
    let e = div-add-mod' c n in
    let d = add-mul (c / n) 1 n in
    let o = one-mul n in
    let l = mod-lt c pos in
    omega arith

whole : (n c x : ℕ) → x < n → (x + (c + (n - c % n))) % n ≡ x
whole n c x h =
    ap (λ (t : ℕ). (x + t) % n) (turns n c (omega arith)) ∙ add-mul-mod_self_right x (c / n + 1) n ∙ mod-eq_of_lt h

pub rotation : (n c : ℕ) → 0 < n → Perm n (rotate n c) (unrotate n c)
rotation n c pos =
    record {
      to_lt = λ x h. mod-lt (x + c) pos;
      from_lt = λ y h. mod-lt (y + (n - c % n)) pos;
      back = λ x h. mod-add-mod (x + c) n (n - c % n) ∙ ap (λ (t : ℕ). t % n) (add_assoc x c (n - c % n)) ∙ whole n c x h;
      forth = λ y h. mod-add-mod (y + (n - c % n)) n c ∙ ap (λ (t : ℕ). t % n) (turned y) ∙ whole n c y h;
    }
  where
    turned : (y : ℕ) → y + (n - c % n) + c ≡ y + (c + (n - c % n))
    turned y = omega arith
