-- How the programs that answer vectors read a number. No reader needs this to know what the calls do.
use Rattle.std.specs.Prelude.{ℕ, suc, ◌+◌, ◌-◌, ◌*◌, ◌^◌, min, cond, List, [], ◌∷◌, ltb, eqb, drop, Option, Some, None}

-- A number read from text, and the place after its last digit.
pub record Numeral : Type 0 where
  pub value : ℕ
  pub next : ℕ

abbrev pub numeral : (value next : ℕ) → Numeral
numeral value next = record { value = value; next = next }

-- The digit that an ASCII byte stands for, or 10 where it stands for none.
unfoldable pub digit_of : (byte : ℕ) → ℕ
digit_of byte = cond (ltb byte 48) 10 (cond (ltb 57 byte) 10 (byte - 48))

-- A digit, or none for 10.
unfoldable pub as_digit : (digit : ℕ) → Option ℕ
as_digit digit = cond (ltb digit 10) (Some digit) None

-- A number with one more digit, or the largest of 64 bits where these do not hold it.
unfoldable pub with_digit : (value digit : ℕ) → ℕ
with_digit value digit = min (value * 10 + digit) (2 ^ 64 - 1)

-- Reading goes on through the digits that a text starts with: `value` is what is read so far, `next` the place of the text.
unfoldable pub read_on : (value next : ℕ) (text : List ℕ) → Numeral
read_on value next [] = numeral value next
read_on value next (byte ∷ rest) = cond (ltb (digit_of byte) 10) (read_on (with_digit value (digit_of byte)) (suc next) rest) (numeral value next)

-- The place after the spaces that a text starts with, where `at` is the text's own place.
unfoldable pub past_spaces : (at : ℕ) (text : List ℕ) → ℕ
past_spaces at [] = at
past_spaces at (byte ∷ rest) = cond (eqb byte 32) (past_spaces (suc at) rest) at

-- The number in base ten that stands at a place of `src`, past spaces.
unfoldable pub parsed_at : (src : List ℕ) (at : ℕ) → Numeral
parsed_at src at = let start = past_spaces at (drop at src) in read_on 0 start (drop start src)
