-- What the sequences are made of: document 002's rows, each computed from the rule once; each entry is an element of the field.
use Rattle.base.proofs.Prelude.{◌≡◌, refl, sym, ap, ◌∙◌, subst, subst⁻¹, Bool, ℕ, ◌+◌, ◌-◌, ◌*◌, ◌/◌, ◌%◌, ◌<◌, ◌≤◌, mod-lt, arith, T, eqb, ltb}
use Rattle.base.proofs.Prelude.{ltb→lt, eq-eqb, ne_eqb}
use Rattle.base.proofs.{Test.cases, Table.{all, all_at}, Tabulate.entry_of}
use native.Mathlib.Nat.{mod-add-mod}
use lib.Bits.{bit_xor, xor_lt}
use Rattle.base.specs.{Choice.pick, Steps.entry, Tabulate.tabulate}
use Rattle.ofusc.specs.{Width.{Width, n4, n8, n16, n32}, Field.{modulus, coefficient, product, remainder, times, power, p1, p2}}
use Rattle.ofusc.specs.{Table.{printed1, printed2}, Map.{term, cell_term}, Law.SequenceLaw}
use Prim.Native.Nat.{◌^◌}

-- a test computed at each of the four N
pub at_width : (f : ℕ → Bool) → T (f 4) × T (f 8) × T (f 16) × T (f 32) → {n : ℕ} → Width n → T (f n)
at_width f t n4 = t.0
at_width f t n8 = t.1
at_width f t n16 = t.2
at_width f t n32 = t.3

-- N is a power of two above 3, and at most 32
pub record Size (n : ℕ) : Type 0 where
  pub bits : ℕ
  pub is : n ≡ 2 ^ bits
  pub above : 3 < n
  pub most : n ≤ 32

pub size : {n : ℕ} → Width n → Size n
size n4 = record { bits = 2; is = refl; above = omega arith; most = omega arith }
size n8 = record { bits = 3; is = refl; above = omega arith; most = omega arith }
size n16 = record { bits = 4; is = refl; above = omega arith; most = omega arith }
size n32 = record { bits = 5; is = refl; above = omega arith; most = omega arith }

pub turn_pos : {n : ℕ} → Width n → 0 < n - 1
turn_pos w = let z = (size w).above in omega arith

pub no_other : {n : ℕ} → Width n → (n ≡ 4 → ⊥) → (n ≡ 8 → ⊥) → (n ≡ 16 → ⊥) → n ≡ 32
no_other n4 a b c = absurd (a refl)
no_other n8 a b c = absurd (b refl)
no_other n16 a b c = absurd (c refl)
no_other n32 a b c = refl

pub pos : {n : ℕ} → Width n → 0 < n
pos w = let z = (size w).above in omega arith

-- the sum of two elements is one
pub sum_lt : {n : ℕ} → Width n → (a b : ℕ) → a < n → b < n → bit_xor a b < n
sum_lt {n} w a b ha hb =
    let e = (size w).is in
    subst⁻¹ (λ (k : ℕ). bit_xor a b < k) e (xor_lt (size w).bits a b (subst (λ (k : ℕ). a < k) e ha) (subst (λ (k : ℕ). b < k) e hb))

-- document 002's rows are those of the rule, P1's by the powers of 2 and P2's by P1's row
printed1_is : {n : ℕ} → Width n → printed1 n ≡ tabulate (n - 1) (λ i. power n 2 i)
unfolding tabulate printed1 modulus coefficient product remainder times power
printed1_is n4 = refl
printed1_is n8 = refl
printed1_is n16 = refl
printed1_is n32 = refl

printed2_is : {n : ℕ} → Width n → printed2 n ≡ tabulate (n - 1) (λ i. entry (printed1 n) (2 * i % (n - 1)))
unfolding tabulate printed1 printed2
printed2_is n4 = refl
printed2_is n8 = refl
printed2_is n16 = refl
printed2_is n32 = refl

pub sequence_law : SequenceLaw
unfolding p1 p2
sequence_law =
    record {
      printed1_is = printed1_is;
      printed2_is = printed2_is;
      p1_is = p1_is;
      p2_is = λ {n} w i h.
          p1_is w (2 * i % (n - 1)) (mod-lt (2 * i) (turn_pos w))
          ∙ sym (entry_of (printed2 n) (n - 1) (λ k. entry (printed1 n) (2 * k % (n - 1))) (printed2_is w) i h);
    }
  where
    p1_is : {n : ℕ} → Width n → (i : ℕ) → i < n - 1 → p1 n i ≡ entry (printed1 n) i
    p1_is {n} w i h = sym (entry_of (printed1 n) (n - 1) (λ k. power n 2 k) (printed1_is w) i h)

-- each entry of P1 is an element, by a test of the row; so each of P2 is
pub p1_lt : {n : ℕ} → Width n → (i : ℕ) → i < n - 1 → p1 n i < n
unfolding printed1
p1_lt {n} w i h =
    rw (sequence_law.p1_is w i h)
    (ltb→lt (entry (printed1 n) i) n (all_at (λ k. ltb (entry (printed1 n) k) n) (n - 1) (at_width (λ m. all (λ k. ltb (entry (printed1 m) k) m) (m - 1)) (tt, tt, tt, tt) w) i h))

pub p2_lt : {n : ℕ} → Width n → (i : ℕ) → p2 n i < n
unfolding p2
p2_lt {n} w i = p1_lt w (2 * i % (n - 1)) (mod-lt (2 * i) (turn_pos w))

-- the row of N starts at place N of a table of rows, and ends before place 63
pub place_lt : {n : ℕ} → Width n → (x : ℕ) → n + x % (n - 1) < 63
place_lt w x = let l = mod-lt x (turn_pos w) in let z = (size w).most in omega arith

pub term_zero : (sequence : ℕ → ℕ) (n c k : ℕ) → c ≡ 0 → term sequence n c k ≡ 0
unfolding term
term_zero sequence n c k e = rw (eq-eqb c 0 e)

pub term_entry : (sequence : ℕ → ℕ) (n c k : ℕ) → (c ≡ 0 → ⊥) → term sequence n c k ≡ sequence ((k % (n - 1) + c) % (n - 1))
unfolding term
term_entry sequence n c k ne = rw (ne_eqb c 0 ne)

-- one remainder is enough
pub term_turn : (sequence : ℕ → ℕ) (n c k : ℕ) → (c ≡ 0 → ⊥) → term sequence n c k ≡ sequence ((k + c) % (n - 1))
term_turn sequence n c k ne = term_entry sequence n c k ne ∙ ap sequence (mod-add-mod k (n - 1) c)

-- a term by another way to say the sequence
pub term_as : {n : ℕ} → Width n → (f g : ℕ → ℕ) → ((i : ℕ) → i < n - 1 → f i ≡ g i) → (c k : ℕ) → term f n c k ≡ term g n c k
unfolding term
term_as {n} w f g e c k = ap (λ (x : ℕ). pick (eqb c 0) 0 x) (e ((k % (n - 1) + c) % (n - 1)) (mod-lt (k % (n - 1) + c) (turn_pos w)))

term_lt : {n : ℕ} → Width n → (sequence : ℕ → ℕ) → ((i : ℕ) → i < n - 1 → sequence i < n) → (c k : ℕ) → term sequence n c k < n
unfolding term
term_lt {n} w sequence lt c k =
    cases (eqb c 0)
    (λ e. rw e (let z = (size w).above in omega arith))
    (λ e. rw e (lt ((k % (n - 1) + c) % (n - 1)) (mod-lt (k % (n - 1) + c) (turn_pos w))))

pub cell_term_lt : {n : ℕ} → Width n → (cell k : ℕ) → cell_term n cell k < n
unfolding cell_term
cell_term_lt {n} w cell k =
    sum_lt w (term (p1 n) n (cell % n) k) (term (p2 n) n (cell / n) k)
    (term_lt w (p1 n) (p1_lt w) (cell % n) k) (term_lt w (p2 n) (λ i h. p2_lt w i) (cell / n) k)

-- the cell's term goes by k mod (N-1)
pub cell_term_as : (n cell j k : ℕ) → j % (n - 1) ≡ k % (n - 1) → cell_term n cell j ≡ cell_term n cell k
unfolding cell_term term
cell_term_as n cell j k e = rw e
