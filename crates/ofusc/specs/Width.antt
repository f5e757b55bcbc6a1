-- Document 01, "Modes and their ranges": N = 4, 8, 16, 32 for the four sizes (size = 64N).
use Rattle.std.specs.Prelude.{ℕ}

pub data Width : ℕ → Type 0 where
  n4 : Width 4
  n8 : Width 8
  n16 : Width 16
  n32 : Width 32

-- No two proofs say that a number is one of the four: the type of N in the code keeps one.
pub width_prop : (n : ℕ) → IsProp (Width n)
width_prop n n4 n4 = λ i. n4
width_prop n n8 n8 = λ i. n8
width_prop n n16 n16 = λ i. n16
width_prop n n32 n32 = λ i. n32
