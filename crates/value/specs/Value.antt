-- Document 01, "Zone plan": values are groups of seven bits, lowest first, top bit set when more follow, shortest form, at most three groups.
use Rattle.std.specs.Prelude.{List, [], ◌∷◌, ltb, get_or, ℕ, zero, suc, ◌+◌, ◌*◌, ◌/◌, ◌%◌, ◌<◌}
use Rattle.base.specs.Choice.{pick}
use Rattle.base.specs.Answer.{Answer, accepted, refused, ask}
use Rattle.value.specs.declared.Value.{Value}

-- Bytes are numbers below 256.
abbrev pub Bytes : (s : List ℕ) → Type 0
Bytes s = (k : ℕ) → get_or s k 0 < 256

-- A byte whose top bit is set, and what the groups after it give. Shortest form: these are worth more than zero, so the last of several groups is not zero.
abbrev pub more : (byte : ℕ) (further : Answer Value) → Answer Value
more byte (accepted v) = ask (ltb 0 v.value) 11 (accepted (record { value = byte % 128 + 128 * v.value; bytes = suc v.bytes }))
more byte (refused number) = refused number

-- The value at the head of the bytes, in at most so many groups. 10 Do the bytes reach to its end or its third group? 11 Does it end by then, in shortest form?
unfoldable pub value_in : (groups : ℕ) (bytes : List ℕ) → Answer Value
value_in zero bytes = refused 11
value_in (suc groups) [] = refused 10
value_in (suc groups) (byte ∷ bytes) = pick (ltb byte 128) (accepted (record { value = byte; bytes = 1 })) (more byte (value_in groups bytes))

abbrev pub value_of : (bytes : List ℕ) → Answer Value
value_of bytes = value_in 3 bytes

-- The bytes of a value below 2^21.
unfoldable pub encode_in : (groups value : ℕ) → List ℕ
encode_in zero value = []
encode_in (suc groups) value = pick (ltb value 128) (value ∷ []) ((value % 128 + 128) ∷ encode_in groups (value / 128))

abbrev pub encode : (value : ℕ) → List ℕ
encode value = encode_in 3 value
