-- The steps that the permutations of document 01 are made of, beside the library's exclusive or (`bit_xor`) and digits `k * n + r`.
use Rattle.std.specs.Prelude.{List, leb, ltb, get_or, ℕ, ◌+◌, ◌-◌, ◌%◌}
use Rattle.base.specs.Choice.{pick}

-- x moved on, modulo n, as `(k+13s) mod 24`
abbrev pub rotate : (n by x : ℕ) → ℕ
rotate n by x = (x + by) % n

-- The reverse: y moved back.
abbrev pub unrotate : (n by y : ℕ) → ℕ
unrotate n by y = (y + (n - by % n)) % n

-- the entry of a constant table
abbrev pub entry : (table : List ℕ) (i : ℕ) → ℕ
entry table i = get_or table i 0

-- counting that leaves the place p out: r, and one more where r is p or above
unfoldable pub skip : (p r : ℕ) → ℕ
skip p r = r + pick (leb p r) 1 0

-- The reverse: the count of a place other than p.
unfoldable pub unskip : (p place : ℕ) → ℕ
unskip p place = place - pick (ltb p place) 1 0
