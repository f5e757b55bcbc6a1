-- The fields of the four N, each fact a test that is computed.
use Rattle.base.proofs.{Prelude.{Bool, true, ℕ, suc, ◌-◌, eqb, ltb, eqb→eq, ltb→lt, eq-eqb}, Table.{all, all_at}}
use lib.Bits.{bit_xor}
use Rattle.base.specs.Choice.{pick}
use Rattle.ofusc.specs.{Width.Width, Field.{modulus, coefficient, product, remainder, times}}
use Rattle.ofusc.proofs.Sequence.{at_width, size, sum_lt}
use Rattle.figures.proofs.Field.{shift, Doubling}

-- N² sums, N doublings, N turns, and N·(N-2) steps
sums : ℕ → ℕ → ℕ → Bool
sums n x y = eqb (times n 2 (bit_xor x y)) (bit_xor (times n 2 x) (times n 2 y))

elements : ℕ → ℕ → Bool
elements n x = ltb (times n 2 x) n

turns : ℕ → ℕ → Bool
turns n x = eqb (shift n (n - 1) x) x

steps : ℕ → ℕ → ℕ → Bool
steps n x i = pick (eqb (shift n (suc i) x) x) (eqb x 0) true

pub field : {n : ℕ} → Width n → Doubling n
unfolding modulus coefficient product remainder times shift sums elements turns steps
field {n} w =
    record {
      above = (size w).above;
      closed = sum_lt w;
      double_lt = λ x h. ltb→lt (times n 2 x) n (all_at (elements n) n (at_width (λ m. all (elements m) m) (tt, tt, tt, tt) w) x h);
      additive = λ x y hx hy. eqb→eq (times n 2 (bit_xor x y)) (bit_xor (times n 2 x) (times n 2 y))
          (all_at (sums n x) n (all_at (λ z. all (sums n z) n) n (at_width (λ m. all (λ z. all (sums m z) m) m) (tt, tt, tt, tt) w) x hx) y hy);
      order = λ x h. eqb→eq (shift n (n - 1) x) x (all_at (turns n) n (at_width (λ m. all (turns m) m) (tt, tt, tt, tt) w) x h);
      free = λ i x l h e. eqb→eq x 0 (rw (eq-eqb (shift n (suc i) x) x e) at
          (all_at (steps n x) (n - 2) (all_at (λ z. all (steps n z) (n - 2)) n (at_width (λ m. all (λ z. all (steps m z) (m - 2)) m) (tt, tt, tt, tt) w) x h) i l));
    }
