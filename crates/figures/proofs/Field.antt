-- The algebra behind the figures of optional FUSC, once over N. With x = 2^k, a hit in group k means d + A·x + B·x² = 0; A and B are not both 0 where the cells differ, and then at most two x solve it. Doubling is all the multiplication that this takes.
use Rattle.base.proofs.Prelude.{◌≡◌, refl, sym, ap, ◌∙◌, ℕ, zero, suc, ◌+◌, ◌-◌, ◌*◌, ◌/◌, ◌%◌, ◌<◌, div-add-mod', arith}
use Rattle.base.proofs.Xor.{xor_assoc, xor_twice}
use native.Mathlib.Nat.{zero-add, suc-add, zero-mul, suc-mul}
use lib.Bits.{bit_xor, xor_self, xor_comm, xor_zero_l}
use Rattle.ofusc.specs.Field.{times}

-- x times 2^i, by doubling i times
unfoldable pub shift : ℕ → ℕ → ℕ → ℕ
shift n zero x = x
shift n (suc i) x = times n 2 (shift n i x)

-- THE FACTS ABOUT THE FIELD of N elements that the figures rest on.
pub record Doubling (n : ℕ) : Type 0 where
  pub above : 3 < n
  pub closed : (x y : ℕ) → x < n → y < n → bit_xor x y < n
  pub double_lt : (x : ℕ) → x < n → times n 2 x < n
  -- doubling is additive,
  pub additive : (x y : ℕ) → x < n → y < n → times n 2 (bit_xor x y) ≡ bit_xor (times n 2 x) (times n 2 y)
  -- comes back after N-1 steps,
  pub order : (x : ℕ) → x < n → shift n (n - 1) x ≡ x
  -- and no sooner, but at 0
  pub free : (i x : ℕ) → i < n - 2 → x < n → shift n (suc i) x ≡ x → x ≡ 0

-- sums of three and four elements
xor_mid : (a b c : ℕ) → bit_xor (bit_xor a b) (bit_xor b c) ≡ bit_xor a c
xor_mid a b c =
    xor_assoc a b (bit_xor b c)
    ∙ ap (λ (x : ℕ). bit_xor a x) (sym (xor_assoc b b c) ∙ ap (λ (x : ℕ). bit_xor x c) (xor_self b) ∙ xor_zero_l c)

pub xor_swap : (a b c d : ℕ) → bit_xor (bit_xor a b) (bit_xor c d) ≡ bit_xor (bit_xor a c) (bit_xor b d)
xor_swap a b c d =
    xor_assoc a b (bit_xor c d)
    ∙ ap (λ (x : ℕ). bit_xor a x) (sym (xor_assoc b c d) ∙ ap (λ (x : ℕ). bit_xor x d) (xor_comm b c) ∙ xor_assoc c b d)
    ∙ sym (xor_assoc a c (bit_xor b d))

pub xor_zero : (a b : ℕ) → bit_xor a b ≡ 0 → a ≡ b
xor_zero a b e = sym (xor_twice a b) ∙ ap (λ (x : ℕ). bit_xor x b) e ∙ xor_zero_l b

xor_same : (a b : ℕ) → a ≡ b → bit_xor a b ≡ 0
xor_same a b e = ap (λ (x : ℕ). bit_xor x b) e ∙ xor_self b

-- moving a term across
pub xor_cross : (a b c d : ℕ) → bit_xor a b ≡ bit_xor c d → bit_xor a c ≡ bit_xor b d
xor_cross a b c d e = xor_zero (bit_xor a c) (bit_xor b d) (sym (xor_swap a b c d) ∙ xor_same (bit_xor a b) (bit_xor c d) e)

module _ {n : ℕ} (F : Doubling n) where
  pub shift_lt : (i x : ℕ) → x < n → shift n i x < n
  unfolding shift
  shift_lt zero x h = h
  shift_lt (suc i) x h = F.double_lt (shift n i x) (shift_lt i x h)

  pub shift_sum : (i x y : ℕ) → x < n → y < n → shift n i (bit_xor x y) ≡ bit_xor (shift n i x) (shift n i y)
  unfolding shift
  shift_sum zero x y hx hy = refl
  shift_sum (suc i) x y hx hy = ap (times n 2) (shift_sum i x y hx hy) ∙ F.additive (shift n i x) (shift n i y) (shift_lt i x hx) (shift_lt i y hy)

  pub shift_add : (i j x : ℕ) → shift n (i + j) x ≡ shift n i (shift n j x)
  unfolding shift
  shift_add zero j x = ap (λ (t : ℕ). shift n t x) (zero-add j)
  shift_add (suc i) j x = ap (λ (t : ℕ). shift n t x) (suc-add i j) ∙ ap (times n 2) (shift_add i j x)

  -- only the exponent modulo N-1 counts
  whole_turns : (q x : ℕ) → x < n → shift n (q * (n - 1)) x ≡ x
  unfolding shift
  whole_turns zero x h = ap (λ (t : ℕ). shift n t x) (zero-mul (n - 1))
  whole_turns (suc q) x h = rw (suc-mul q (n - 1), shift_add (q * (n - 1)) (n - 1) x, F.order x h) (whole_turns q x h)

  pub shift_mod : (i x : ℕ) → x < n → shift n (i % (n - 1)) x ≡ shift n i x
  shift_mod i x h =
      sym (whole_turns (i / (n - 1)) (shift n (i % (n - 1)) x) (shift_lt (i % (n - 1)) x h))
      ∙ sym (shift_add (i / (n - 1) * (n - 1)) (i % (n - 1)) x)
      ∙ ap (λ (t : ℕ). shift n t x) (div-add-mod' i (n - 1))

  zero_lt : 0 < n
  zero_lt = let l = F.above in omega arith

  pub shift_zero : (i : ℕ) → shift n i 0 ≡ 0
  unfolding shift
  shift_zero zero = refl
  shift_zero (suc i) = ap (times n 2) (shift_zero i) ∙ F.additive 0 0 zero_lt zero_lt ∙ xor_self (times n 2 0)

  -- doubling can be undone
  pub shift_back : (i x y : ℕ) → x < n → y < n → shift n i x ≡ shift n i y → x ≡ y
  unfolding shift
  shift_back zero x y hx hy e = e
  shift_back (suc i) x y hx hy e =
      let one_more : n - 2 + 1 ≡ n - 1 = omega (arith, F.above) in
      let undone : (z : ℕ) → z < n → shift n (n - 2) (times n 2 z) ≡ z = λ z h. sym (shift_add (n - 2) 1 z) ∙ rw one_more (F.order z h) in
      shift_back i x y hx hy
      (sym (undone (shift n i x) (shift_lt i x hx)) ∙ ap (shift n (n - 2)) e ∙ undone (shift n i y) (shift_lt i y hy))

  -- a step by i moves every element but 0
  pub still : (i x : ℕ) → 0 < i → i < n - 1 → x < n → shift n i x ≡ x → x ≡ 0
  still zero x h l hx e = absurd (omega arith)
  still (suc i) x h l hx e = F.free i x (omega arith) hx e

  -- (1 + 2^i)·x; done twice it is (1 + 2^2i)·x, since the square of a sum is the sum of the squares
  abbrev both : ℕ → ℕ → ℕ
  both i x = bit_xor x (shift n i x)

  both_lt : (i x : ℕ) → x < n → both i x < n
  both_lt i x h = F.closed x (shift n i x) h (shift_lt i x h)

  both_sum : (i x y : ℕ) → x < n → y < n → both i (bit_xor x y) ≡ bit_xor (both i x) (both i y)
  both_sum i x y hx hy = ap (bit_xor (bit_xor x y)) (shift_sum i x y hx hy) ∙ xor_swap x y (shift n i x) (shift n i y)

  square : (i x : ℕ) → x < n → both i (both i x) ≡ bit_xor x (shift n (i + i) x)
  square i x h = rw (shift_sum i x (shift n i x) h (shift_lt i x h), shift_add i i x) (xor_mid x (shift n i x) (shift n i (shift n i x)))

  both_zero : (i x : ℕ) → 0 < i → i < n - 1 → x < n → both i x ≡ 0 → x ≡ 0
  both_zero i x h l hx e = still i x h l hx (sym (xor_zero x (shift n i x) e))

  pub still_twice : (i x : ℕ) → 0 < i → i < n - 1 → x < n → shift n (i + i) x ≡ x → x ≡ 0
  still_twice i x h l hx e =
      both_zero i x h l hx (both_zero i (both i x) h l (both_lt i x hx) (square i x hx ∙ xor_same x (shift n (i + i) x) (sym e)))

  -- A·x + B·x² has the same value at x = 1 and at x = 2^i only where A = (1 + 2^i)·B
  module _ (A B : ℕ) (hA : A < n) (hB : B < n) where
    second : (i : ℕ) → 0 < i → i < n - 1 → bit_xor A B ≡ bit_xor (shift n i A) (shift n (i + i) B) → A ≡ both i B
    second i h l e =
        xor_zero A (both i B)
        (both_zero i (bit_xor A (both i B)) h l (F.closed A (both i B) hA (both_lt i B hB))
        (both_sum i A (both i B) hA (both_lt i B hB)
        ∙ xor_same (both i A) (both i (both i B)) (xor_cross A B (shift n i A) (shift n (i + i) B) e ∙ sym (square i B hB))))

    -- AT MOST TWO ROOTS: it takes one value at 1, 2^i and 2^j only where A and B are 0
    pub three : (i j : ℕ) → 0 < i → i < j → j < n - 1
        → bit_xor A B ≡ bit_xor (shift n i A) (shift n (i + i) B) → bit_xor A B ≡ bit_xor (shift n j A) (shift n (j + j) B) → (A ≡ 0) × (B ≡ 0)
    three i j h l g eᵢ eⱼ =
        let up : i + (j - i) ≡ j = omega arith in
        let e : both i B ≡ both j B = sym (second i h (omega arith) eᵢ) ∙ second j (omega arith) g eⱼ in
        let same = xor_zero (shift n i B) (shift n j B) (sym (xor_cross B (shift n i B) B (shift n j B) e) ∙ xor_self B) in
        let B-zero : B ≡ 0 =
        still (j - i) B (omega arith) (omega arith) hB
        (shift_back i (shift n (j - i) B) B (shift_lt (j - i) B hB) hB (sym (shift_add i (j - i) B) ∙ rw up (sym same))) in
        (second i h (omega arith) eᵢ ∙ ap (both i) B-zero ∙ xor_zero_l (shift n i 0) ∙ shift_zero i, B-zero)
