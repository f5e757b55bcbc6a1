-- The permutation of optional FUSC. Document 01, "Spread mode" (document 002, equation 1).
use Rattle.std.specs.Prelude.{ℕ, ◌+◌, ◌-◌, ◌*◌, ◌/◌, ◌%◌, eqb}
use Rattle.std.specs.Int.Bits.{bit_xor}
use Rattle.base.specs.Choice.{pick}
use Rattle.base.specs.Steps.{unrotate}
use Rattle.carriers.specs.declared.Address.{Address}
use Rattle.ofusc.specs.Field.{p1, p2}

-- For subchannel s and index m: group k = (m+23s) mod 48.
unfoldable pub group_of : (s m : ℕ) → ℕ
group_of s m = (m + 23 * s) % 48

-- k' = k mod (N-1); a sequence's entry at (k'+c) mod (N-1), only if c is not 0
unfoldable pub term : (sequence : ℕ → ℕ) (n c k : ℕ) → ℕ
term sequence n c k = pick (eqb c 0) 0 (sequence ((k % (n - 1) + c) % (n - 1)))

-- what the cell adds to s in group k: c1 = cell mod N goes with P1, c2 = cell div N with P2
unfoldable pub cell_term : (n cell k : ℕ) → ℕ
cell_term n cell k = bit_xor (term (p1 n) n (cell % n) k) (term (p2 n) n (cell / n) k)

-- Data number = N·k + (s, plus P1[..], plus P2[..]), the inner sums in the field.
unfoldable pub data_number : (n cell s m : ℕ) → ℕ
data_number n cell s m = group_of s m * n + bit_xor s (cell_term n cell (group_of s m))

-- The reverse: the address of a data number.
unfoldable pub address_of : (n cell d : ℕ) → Address
address_of n cell d =
    let s = bit_xor (d % n) (cell_term n cell (d / n)) in
    record { subchannel = s; index = unrotate 48 (23 * s) (d / n) }
