-- The permutation of AMC. Document 01, "Adjacent mode", over the slot's shape: bins of a subchannel by symbols (document 02, wish 2; document 01 has six by one).
use Rattle.std.specs.Prelude.{ℕ, ◌+◌, ◌-◌, ◌*◌, ◌/◌, ◌%◌, eqb}
use Rattle.base.specs.Choice.{pick}
use Rattle.base.specs.Steps.{entry, unrotate}
use Rattle.carriers.specs.declared.Address.{Address}
use Rattle.carriers.specs.declared.DataNumber.{DataNumber}
use Rattle.amc.specs.declared.Shape.{Shape}
use Rattle.amc.specs.Table.{positions}
use Rattle.amc.specs.Element.{Element, base_seven, two_digits, element, add, subtract, sequence}

-- per = cell mod 48, off = cell div 48 as two base-seven digits
unfoldable pub off : (cell : ℕ) → Element
off cell = two_digits (cell / 48)

-- a sum, or off itself where that sum is zero
unfoldable pub zero_rule : (o sum : Element) → Element
zero_rule o sum = pick (eqb (base_seven sum) 0) o sum

-- Index j gives E = P[(j+per) mod 48] + off, or off itself where that sum is zero.
unfoldable pub element_of : (cell j : ℕ) → Element
element_of cell j = zero_rule (off cell) (add (sequence ((j + cell % 48) % 48)) (off cell))

-- E read in base seven, less 1, is v.
unfoldable pub traffic : (cell j : ℕ) → ℕ
traffic cell j = base_seven (element_of cell j) - 1

-- The reverse: the sum that the zero rule made an element of.
unfoldable pub sum_of : (o e : Element) → Element
sum_of o e = pick (eqb (base_seven e) (base_seven o)) (element 0 0) e

-- The reverse: the index of v.
unfoldable pub index_of : (cell v : ℕ) → ℕ
index_of cell v = unrotate 48 (cell % 48) (entry positions (base_seven (subtract (sum_of (off cell) (two_digits (v + 1))) (off cell))))

-- Document 02, wish 2: subchannel a takes its bins from bin bins·a on (document 01, six by one: bins 6a to 6a+5). Its 48 traffic places run along the eight data carriers of a bin, then its next bin, then the next symbol. (Data number d is place d mod 8 of bin d div 8.)
unfoldable pub traffic_number : (shape : Shape) (a v : ℕ) → DataNumber
traffic_number shape a v =
    record { offset = v / 8 / shape.bins; number = (a * shape.bins + v / 8 % shape.bins) * 8 + v % 8 }

-- Index j is on traffic place v.
unfoldable pub data_number : (shape : Shape) (cell a j : ℕ) → DataNumber
data_number shape cell a j = traffic_number shape a (traffic cell j)

-- The reverse: the address of a data number in a symbol of the slot, which is the subchannel of its bin and the index of its v.
unfoldable pub address_of : (shape : Shape) (cell offset d : ℕ) → Address
address_of shape cell offset d =
    record { subchannel = d / 8 / shape.bins; index = index_of cell ((offset * shape.bins + d / 8 % shape.bins) * 8 + d % 8) }
