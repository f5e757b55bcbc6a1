-- Elements. Document 01, "Adjacent mode": elements are pairs of digits 0..6, added digit by digit modulo 7; digits a, b stand for a·w + b, with w·w = 6w + 4 modulo 7.
use Rattle.std.specs.Prelude.{ℕ, zero, suc, ◌+◌, ◌*◌, ◌/◌, ◌%◌}
use Rattle.base.specs.Steps.{unrotate}

pub record Element : Type 0 where
  pub high : ℕ
  pub low : ℕ

abbrev pub element : (a b : ℕ) → Element
element a b = record { high = a; low = b }

-- an element read in base seven
abbrev pub base_seven : (e : Element) → ℕ
base_seven e = e.high * 7 + e.low

-- a number below 49 as two base-seven digits
abbrev pub two_digits : (x : ℕ) → Element
two_digits x = element (x / 7) (x % 7)

unfoldable pub add : (x y : Element) → Element
add x y = element ((x.high + y.high) % 7) ((x.low + y.low) % 7)

-- The reverse: what x is the sum of, beside y.
unfoldable pub subtract : (x y : Element) → Element
subtract x y = element (unrotate 7 y.high x.high) (unrotate 7 y.low x.low)

-- (a·w + b)(c·w + d) = ac·w·w + (ad + bc)·w + bd
unfoldable pub times : (x y : Element) → Element
times x y =
    let square = x.high * y.high in
    element ((6 * square + x.high * y.low + x.low * y.high) % 7) ((4 * square + x.low * y.low) % 7)

-- The 48-entry sequence P is document 004's, the powers of 22.
unfoldable pub sequence : (i : ℕ) → Element
sequence zero = element 0 1
sequence (suc i) = times (element 2 2) (sequence i)
