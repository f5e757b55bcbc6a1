-- The sequence P as document 004 prints it, two digits an entry, and its inverse.
use Rattle.std.specs.Prelude.{List, [], ◌∷◌, ℕ}

-- Document 004, "Basic sequence defined in GF(7²)", in hepta-notation: 22 is the pair of digits 2 and 2. Here they are those of a hexadecimal number.
abbrev pub sequence_digits : List ℕ
sequence_digits = 0x01 ∷ 0x22 ∷ 0x46 ∷ 0x52 ∷ 0x42 ∷ 0x41 ∷ 0x26 ∷ 0x50 ∷ 0x05 ∷ 0x33 ∷ 0x62 ∷ 0x43 ∷ 0x63 ∷ 0x65 ∷ 0x32 ∷ 0x40 ∷ 0x04 ∷ 0x11 ∷ 0x23 ∷ 0x61 ∷ 0x21 ∷ 0x24 ∷ 0x13 ∷ 0x60 ∷ 0x06 ∷ 0x55 ∷ 0x31 ∷ 0x25 ∷ 0x35 ∷ 0x36 ∷ 0x51 ∷ 0x20 ∷ 0x02 ∷ 0x44 ∷ 0x15 ∷ 0x34 ∷ 0x14 ∷ 0x12 ∷ 0x45 ∷ 0x30 ∷ 0x03 ∷ 0x66 ∷ 0x54 ∷ 0x16 ∷ 0x56 ∷ 0x53 ∷ 0x64 ∷ 0x10 ∷ []

-- The reverse: where in P an element stands, by its number in base seven; the zero element is not there
abbrev pub positions : List ℕ
positions = 0 ∷ 0 ∷ 32 ∷ 40 ∷ 16 ∷ 8 ∷ 24 ∷ 47 ∷ 17 ∷ 37 ∷ 22 ∷ 36 ∷ 34 ∷ 43 ∷ 31 ∷ 20 ∷ 1 ∷ 18 ∷ 21 ∷ 27 ∷ 6 ∷ 39 ∷ 26 ∷ 14 ∷ 9 ∷ 35 ∷ 28 ∷ 29 ∷ 15 ∷ 5 ∷ 4 ∷ 11 ∷ 33 ∷ 38 ∷ 2 ∷ 7 ∷ 30 ∷ 3 ∷ 45 ∷ 42 ∷ 25 ∷ 44 ∷ 23 ∷ 19 ∷ 10 ∷ 12 ∷ 46 ∷ 13 ∷ 41 ∷ []
