-- What the contracts of this crate cite: text put into a buffer, and a number in base ten.
use Rattle.std.specs.Prelude.{ℕ, zero, suc, ◌+◌, ◌/◌, ◌%◌, ◌≡◌, cond, List, [], ◌∷◌, ◌++◌, ltb, length, take, drop}

-- The number x in base ten, in ASCII, with k + 1 digits at most.
unfoldable pub digits : (k x : ℕ) → List ℕ
digits zero x = (48 + x) ∷ []
digits (suc k) x = cond (ltb x 10) ((48 + x) ∷ []) (digits k (x / 10) ++ ((48 + x % 10) ∷ []))

-- The number x in base ten, in ASCII, with the fewest digits that hold it: x + 1 of them are always enough.
unfoldable pub decimal : (x : ℕ) → List ℕ
decimal x = digits x x

-- A buffer with a text at a place of it: what is before and after the text stays.
unfoldable pub put : (dest : List ℕ) (at : ℕ) (text : List ℕ) → List ℕ
put dest at text = take at dest ++ text ++ drop (at + length text) dest

-- What the `put_` functions leave: a text put at a place of the buffer, and their answer, the place after it.
pub record Put (dest : List ℕ) (at : ℕ) (text : List ℕ) (next : ℕ) (after : List ℕ) : Type 0 where
  pub next_is : next ≡ at + length text
  pub after_is : after ≡ put dest at text
