-- How v is found by a lent copy of P. No reader needs this to know what the calls do.
use Rattle.std.specs.Prelude.{◌≡◌, ℕ, ◌-◌, ◌*◌}
use Rattle.amc.specs.declared.Shape.{Shape}
use Rattle.amc.specs.Element.{Element, base_seven, add, sequence}
use Rattle.amc.specs.Map.{off, zero_rule}

-- a shape of document 000: six bins in all
abbrev pub IsShape : (shape : Shape) → Type 0
IsShape shape = shape.bins * shape.symbols ≡ 6

-- v of an entry of P under an offset, and of entry i of P under the offset of a cell
unfoldable pub sum_place : (o p : Element) → ℕ
sum_place o p = base_seven (zero_rule o (add p o)) - 1

unfoldable pub sequence_place : (cell i : ℕ) → ℕ
sequence_place cell i = sum_place (off cell) (sequence i)
