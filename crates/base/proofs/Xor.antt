-- The exclusive or is associative, so that adding the same element twice changes nothing.
use Rattle.base.proofs.Prelude.{◌≡◌, refl, sym, ap, ap₂, ◌∙◌, ℕ, zero, suc, ◌+◌, ◌*◌, ◌/◌, ◌%◌, ◌<◌, mod-lt, arith, lit<}
use lib.{Arith.bin_ind, Bits.{bit_xor, differ, xor_step, xor_shr, xor_mod, xor_self, xor_zero_l, xor_zero_r}}

data Bit : ℕ → Type 0 where
  b0 : Bit 0
  b1 : Bit 1

bit : (n : ℕ) → n < 2 → Bit n
bit zero h = b0
bit (suc zero) h = b1
bit (suc (suc n)) h = absurd (omega arith)

bits_assoc : {p q r : ℕ} → Bit p → Bit q → Bit r → differ (bit_xor p q) r ≡ differ p (bit_xor q r)
bits_assoc b0 b0 b0 = refl
bits_assoc b0 b0 b1 = refl
bits_assoc b0 b1 b0 = refl
bits_assoc b0 b1 b1 = refl
bits_assoc b1 b0 b0 = refl
bits_assoc b1 b0 b1 = refl
bits_assoc b1 b1 b0 = refl
bits_assoc b1 b1 b1 = refl

last : (n : ℕ) → Bit (n % 2)
last n = bit (n % 2) (mod-lt n (lit< tt))

step : (n b c : ℕ) → bit_xor (bit_xor (n / 2) (b / 2)) (c / 2) ≡ bit_xor (n / 2) (bit_xor (b / 2) (c / 2))
    → bit_xor (bit_xor n b) c ≡ bit_xor n (bit_xor b c)
step n b c ih =
    xor_step (bit_xor n b) c
    ∙ ap₂ (λ (x y : ℕ). bit_xor x (c / 2) * 2 + differ y (c % 2)) (xor_shr n b 1) (xor_mod n b 1)
    ∙ ap₂ (λ (x y : ℕ). x * 2 + y) ih (bits_assoc (last n) (last b) (last c))
    ∙ sym (ap₂ (λ (x y : ℕ). bit_xor (n / 2) x * 2 + differ (n % 2) y) (xor_shr b c 1) (xor_mod b c 1))
    ∙ sym (xor_step n (bit_xor b c))

pub xor_assoc : (a b c : ℕ) → bit_xor (bit_xor a b) c ≡ bit_xor a (bit_xor b c)
xor_assoc a =
    bin_ind (λ (n : ℕ). (b c : ℕ) → bit_xor (bit_xor n b) c ≡ bit_xor n (bit_xor b c))
    (λ b c. ap (λ (x : ℕ). bit_xor x c) (xor_zero_l b) ∙ sym (xor_zero_l (bit_xor b c)))
    (λ n ih b c. step n b c (ih (b / 2) (c / 2))) a

pub xor_twice : (a c : ℕ) → bit_xor (bit_xor a c) c ≡ a
xor_twice a c = xor_assoc a c c ∙ ap (λ (x : ℕ). bit_xor a x) (xor_self c) ∙ xor_zero_r a
