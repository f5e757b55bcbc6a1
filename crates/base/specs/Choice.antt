-- A choice by a test. The tests are the library's `ltb` (below), `leb` (at most) and `eqb` (equal).
use Rattle.std.specs.Prelude.{Bool, true, false, ℕ, ltb, leb}

abbrev pub pick : {A : Type 0} (test : Bool) (yes' no' : A) → A
pick true yes' no' = yes'
pick false yes' no' = no'

-- a number of 1, 2, .., most
unfoldable pub is_up_to : (most number : ℕ) → Bool
is_up_to most number = pick (ltb 0 number) (leb number most) false
