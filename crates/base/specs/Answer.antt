-- What a call answers: a value, or the number of the first question of document 01 that was answered no.
use Rattle.std.specs.Prelude.{Bool, true, false, ℕ}

pub data Answer (A : Type 0) : Type 0 where
  accepted : A → Answer A
  refused : ℕ → Answer A

-- Document 01, "The questions put to a request, in order": a no gives the number. A chain of `ask` has its questions in the order of its lines.
abbrev pub ask : {A : Type 0} (ok : Bool) (number : ℕ) (rest : Answer A) → Answer A
ask true number rest = rest
ask false number rest = refused number

-- Document 01's number of an answer, 0 where the request is accepted.
abbrev pub refusal_of : {A : Type 0} (answer : Answer A) → ℕ
refusal_of (accepted a) = 0
refusal_of (refused k) = k
