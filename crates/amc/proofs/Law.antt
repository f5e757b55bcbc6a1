-- AMC numbers the data carriers of a slot one for one: index j and v are a rotation, the sequence P, a sum and the zero rule apart, and v and the data place are digits.
use Rattle.base.proofs.Prelude.{◌≡◌, ap, ◌∙◌, ℕ, ◌+◌, ◌-◌, ◌*◌, ◌/◌, ◌%◌, ◌<◌, mod-lt, div-add-mod', div-lt_iff_lt-mul, arith, digits_div, digits_mod}
use Rattle.base.proofs.Prelude.{digits_lt, lit<}
use Rattle.base.proofs.Perm.{rotation}
use native.Mathlib.Nat.{pos_of_ne-zero, mul_assoc, mul_comm}
use Rattle.carriers.specs.{declared.DataNumber.DataNumber, Law.NumberLaw}
use Rattle.amc.specs.{declared.Shape.Shape, Element.{Element, base_seven, two_digits, add, subtract, sequence}}
use Rattle.amc.specs.{Map.{off, sum_of, element_of, traffic, index_of, traffic_number, data_number, address_of}, Model.IsShape}
use Rattle.amc.proofs.Digit.{Proper, number_lt, digits_proper, digits_number, add_proper, subtract_proper, subtract_add, add_subtract}
use Rattle.amc.proofs.Digit.{added_differs, subtracted_differs}
use Rattle.amc.proofs.{Tables.{powers, position_lt, at_position}, Parts.{bins_pos, symbols_six, rest_six}}
use Rattle.amc.proofs.ZeroRule.{sum_back, rule_nonzero, rule_proper, rule_back, sum_not_off, sum_proper}

module _ (cell : ℕ) (range : cell < 2352) where
  abbrev pub o : Element
  o = off cell

  pub off_proper : Proper o
  unfolding off
  off_proper = digits_proper (cell / 48) (omega arith)

  abbrev pub turn : ℕ → ℕ
  turn j = (j + cell % 48) % 48

  pub turn_lt : (j : ℕ) → turn j < 48
  turn_lt j = omega arith

  -- the sum of index j is not off, since no entry of P is zero
  abbrev sum : ℕ → Element
  sum j = add (sequence (turn j)) o

  sum_differs : (j : ℕ) → base_seven (sum j) ≡ base_seven o → ⊥
  sum_differs j = added_differs (sequence (turn j)) o (powers (turn j) (turn_lt j)).proper off_proper (powers (turn j) (turn_lt j)).nonzero

  -- v + 1 is the element read in base seven
  pub traffic-number : (j : ℕ) → traffic cell j + 1 ≡ base_seven (element_of cell j)
  unfolding traffic element_of
  traffic-number j = let n = rule_nonzero o (sum j) (add_proper _ _) (sum_differs j) in omega (arith, pos_of_ne-zero n)

  pub element_proper : (j : ℕ) → Proper (element_of cell j)
  unfolding element_of
  element_proper j = rule_proper o (sum j) (add_proper _ _) (sum_differs j) off_proper

  pub traffic_lt : (j : ℕ) → traffic cell j < 48
  traffic_lt j = omega (arith, traffic-number j, number_lt (element_of cell j) (element_proper j))

  pub index_traffic : (j : ℕ) → j < 48 → index_of cell (traffic cell j) ≡ j
  unfolding index_of element_of
  index_traffic j h =
      let q = powers (turn j) (turn_lt j) in
      rw (traffic-number j, digits_number _ (element_proper j), sum_back _ _ (add_proper _ _) (sum_differs j), subtract_add _ o q.proper, q.position)
      ((rotation 48 (cell % 48) (lit< tt)).back j h)

  -- the entry of P that stands at the index is the difference x of the sum y and off
  pub traffic_index : (v : ℕ) → v < 48 → traffic cell (index_of cell v) ≡ v
  unfolding traffic element_of index_of
  traffic_index v h =
      let e = two_digits (v + 1) in
      let y = sum_of o e in
      let x = subtract y o in
      let e-proper = digits_proper (v + 1) (omega arith) in
      let e-nonzero : base_seven e ≡ 0 → ⊥ = λ q. omega arith in
      let y-proper = sum_proper o e off_proper e-proper e-nonzero in
      let x-proper = subtract_proper y o in
      let x-nonzero = subtracted_differs y o y-proper off_proper (sum_not_off o e off_proper e-proper e-nonzero) in
      let turned = (rotation 48 (cell % 48) (lit< tt)).forth _ (position_lt (base_seven x) (number_lt x x-proper)) in
      rw (turned, at_position x x-proper x-nonzero, add_subtract y o y-proper, rule_back o e off_proper e-proper e-nonzero) (omega arith)

pub index_lt : (cell v : ℕ) → index_of cell v < 48
unfolding index_of
index_lt cell v = omega arith

-- the bin of a data number and its place there, which are the subchannel's and v's
pub bin_of : (shape : Shape) (a v : ℕ) → (traffic_number shape a v).number / 8 ≡ a * shape.bins + v / 8 % shape.bins
unfolding traffic_number
bin_of shape a v = omega arith

pub place_of : (shape : Shape) (a v : ℕ) → (traffic_number shape a v).number % 8 ≡ v % 8
unfolding traffic_number
place_of shape a v = omega arith

-- THE SLOT IS PARTITIONED, whatever its shape: the six bins of a subchannel are symbol and bin as two digits, and the bins of a symbol are subchannel and bin as two digits.
module _ (shape : Shape) (six : IsShape shape) where
  abbrev b : ℕ
  b = shape.bins

  abbrev t : ℕ
  t = shape.symbols

  pos : 0 < b
  pos = bins_pos shape six

  rest_lt : (w : ℕ) → w % b < b
  rest_lt w = mod-lt w pos

  -- the bins of a symbol
  pub all_bins : (n : ℕ) → n * t * b ≡ 6 * n
  all_bins n = mul_assoc n t b ∙ ap (λ (x : ℕ). n * x) (symbols_six shape six) ∙ mul_comm n 6

  -- a symbol and a bin of a subchannel as a traffic place
  pub traffic_below : (o d : ℕ) → o < t → (o * b + d / 8 % b) * 8 + d % 8 < 48
  traffic_below o d h = omega (arith, rw (symbols_six shape six) at (digits_lt h (rest_lt (d / 8))))

  -- as the code puts it together
  pub index_below : (o d q : ℕ) → o < t → q ≡ d / 8 / b → (o * b + (d / 8 - q * b)) * 8 + d % 8 < 48
  index_below o d q h e = rw (rest_six shape six (d / 8) q e) (traffic_below o d h)

  module _ (a v : ℕ) where
    abbrev its : DataNumber
    its = traffic_number shape a v

    subchannel_of : its.number / 8 / b ≡ a
    subchannel_of = ap (λ (w : ℕ). w / b) (bin_of shape a v) ∙ digits_div a (rest_lt (v / 8))

    pub traffic_back : (its.offset * b + its.number / 8 % b) * 8 + its.number % 8 ≡ v
    unfolding traffic_number
    traffic_back =
        let bin : its.number / 8 % b ≡ v / 8 % b = ap (λ (w : ℕ). w % b) (bin_of shape a v) ∙ digits_mod a (rest_lt (v / 8)) in
        omega (arith, bin, place_of shape a v, div-add-mod' (v / 8) b)

    pub offset_lt : v < 48 → its.offset < t
    unfolding traffic_number
    offset_lt h = (div-lt_iff_lt-mul pos).1 (rw (symbols_six shape six) (omega arith))

    pub number_below : (n : ℕ) → a < n * t → its.number < 48 * n
    unfolding traffic_number
    number_below n h = omega (arith, all_bins n, digits_lt h (rest_lt (v / 8)))

  -- the digits put together again
  place_back : (o d : ℕ) → traffic_number shape (d / 8 / b) ((o * b + d / 8 % b) * 8 + d % 8) ≡ record { offset = o; number = d }
  unfolding traffic_number
  place_back o d =
      let v = (o * b + d / 8 % b) * 8 + d % 8 in
      let bin : v / 8 ≡ o * b + d / 8 % b = omega arith in
      let place : v % 8 ≡ d % 8 = omega arith in
      rw (bin, place, digits_div o (rest_lt (d / 8)), digits_mod o (rest_lt (d / 8)), div-add-mod' (d / 8) b, div-add-mod' d 8)

  pub law : (cell : ℕ) → cell < 2352 → (n : ℕ) → NumberLaw t (n * t) (48 * n) (data_number shape cell) (address_of shape cell)
  unfolding data_number address_of
  law cell range n =
      record {
        offset_lt = λ a j ha hj. offset_lt a (traffic cell j) (traffic_lt cell range j);
        number_lt = λ a j ha hj. number_below a (traffic cell j) n ha;
        back = λ a j ha hj. rw (subchannel_of a (traffic cell j), traffic_back a (traffic cell j), index_traffic cell range j hj);
        names = λ o d ho hd. record { subchannel_lt = (div-lt_iff_lt-mul pos).1 (rw (all_bins n) (omega arith)); index_lt = index_lt cell _ };
        forth = λ o d ho hd. rw (traffic_index cell range _ (traffic_below o d ho)) (place_back o d);
      }
