-- A symbol's pilots as a lent list, and the used numbers that it leaves. Document 02, wish 8: "the symbol's 166 pilots are lent .. as rising used numbers, and data numbers run over what is left".
use Rattle.std.specs.Prelude.{Bool, true, false, List, [], ◌∷◌, ℕ, eqb, ltb, length}
use Rattle.base.specs.Choice.{pick}
use Rattle.base.specs.Rank.{rank, unrank}

-- Is a used number in the list?
unfoldable pub is_in : (list : List ℕ) (used : ℕ) → Bool
is_in [] used = false
is_in (p ∷ list) used = pick (eqb p used) true (is_in list used)

-- Is each entry larger than the one before?
unfoldable pub is_rising : (list : List ℕ) → Bool
is_rising [] = true
is_rising (p ∷ []) = true
is_rising (p ∷ (q ∷ list)) = pick (ltb p q) (is_rising (q ∷ list)) false

-- Is each entry below the limit?
unfoldable pub are_below : (limit : ℕ) (list : List ℕ) → Bool
are_below limit [] = true
are_below limit (p ∷ list) = pick (ltb p limit) (are_below limit list) false

-- Document 02, wish 8: "20, a pilot list not of 166 entries (0 in other modes), not strictly rising or beyond 1701". This is FUSC's part of it.
unfoldable pub is_pilot_list : (list : List ℕ) → Bool
is_pilot_list list = pick (eqb (length list) 166) (pick (is_rising list) (are_below 1702 list) false) false

-- Is a used number left when the lent ones are taken out?
unfoldable pub is_left : (list : List ℕ) (used : ℕ) → Bool
is_left list used = pick (is_in list used) false true

-- Data numbers run over what is left: data number d is on the used number below 1702 that is left and has d others that are left below it.
unfoldable pub used_of_data : (list : List ℕ) (d : ℕ) → ℕ
used_of_data list d = unrank (is_left list) 1702 d

-- The reverse: how many below a used number are left.
unfoldable pub data_of_used : (list : List ℕ) (used : ℕ) → ℕ
data_of_used list used = rank (is_left list) used
