-- The field. Document 01, "Spread mode": field elements are 0..N-1, addition is exclusive or, multiplication is of polynomials modulo 7, 11, 19, 37 (bits as coefficients) for N = 4, 8, 16, 32.
use Rattle.std.specs.Prelude.{ℕ, zero, suc, ◌-◌, ◌*◌, ◌/◌, ◌%◌, ◌^◌, eqb}
use Rattle.std.specs.Int.Bits.{bit_xor}
use Rattle.base.specs.Choice.{pick}

unfoldable pub modulus : (n : ℕ) → ℕ
modulus n = pick (eqb n 4) 7 (pick (eqb n 8) 11 (pick (eqb n 16) 19 (pick (eqb n 32) 37 0)))

-- the coefficient of degree i of a polynomial
unfoldable pub coefficient : (p i : ℕ) → ℕ
coefficient p i = p / 2 ^ i % 2

-- the product of two polynomials, from the lowest i coefficients of the second
unfoldable pub product : (i a b : ℕ) → ℕ
product zero a b = 0
product (suc i) a b = bit_xor (product i a b) (pick (eqb (coefficient b i) 1) (a * 2 ^ i) 0)

-- the remainder of p by the modulus of N, which has degree log N: its multiples by 2^(i-1) down to 2^0 are taken off, each where p has the coefficient of its degree
unfoldable pub remainder : (i n p : ℕ) → ℕ
remainder zero n p = p
remainder (suc i) n p = remainder i n (pick (eqb (p / (n * 2 ^ i) % 2) 1) (bit_xor p (modulus n * 2 ^ i)) p)

-- multiplication in the field: elements have at most five coefficients, so their product has at most nine
unfoldable pub times : (n a b : ℕ) → ℕ
times n a b = remainder 5 n (product 5 a b)

unfoldable pub power : (n a i : ℕ) → ℕ
power n a zero = 1
power n a (suc i) = times n a (power n a i)

-- P1 lists the powers of 2 from the zeroth on, N-1 entries; P2's entry i is P1's entry 2i mod (N-1).
unfoldable pub p1 : (n i : ℕ) → ℕ
p1 n i = power n 2 i

unfoldable pub p2 : (n i : ℕ) → ℕ
p2 n i = p1 n (2 * i % (n - 1))
