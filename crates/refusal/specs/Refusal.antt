-- What a call of the code answers, as an answer of document 01: a value, or the number of the question that was answered no.
use Rattle.std.specs.Prelude.{ℕ, Result, Ok, Err}
use Rattle.base.specs.Answer.{Answer, accepted, refused}
use Rattle.refusal.specs.declared.Refusal.{Refusal}
use Rattle.refusal.specs.declared.Refusal.TheVariants as no

-- Document 01's number of a question, and document 02's from 17 on.
abbrev pub number_of : (refusal : Refusal) → ℕ
number_of no.Mode = 1
number_of no.Size = 2
number_of no.Cell = 3
number_of no.Slot = 4
number_of no.Subchannel = 5
number_of no.Index = 6
number_of no.Carrier = 7
number_of no.Points = 8
number_of no.Grid = 9
number_of no.Cut = 10
number_of no.Form = 11
number_of no.Count = 12
number_of no.Slots = 13
number_of no.Order = 14
number_of no.Rest = 15
number_of no.Room = 16
number_of no.Mask = 17
number_of no.Burst = 18
number_of no.Overlap = 19
number_of no.Pilots = 20

-- What a result says.
abbrev pub answer_of : {A : Type 0} (result : Result A Refusal) → Answer A
answer_of (Ok a) = accepted a
answer_of (Err e) = refused (number_of e)

-- Its number, 0 where it is a value.
abbrev pub refusal_in : {A : Type 0} (result : Result A Refusal) → ℕ
refusal_in (Ok a) = 0
refusal_in (Err e) = number_of e
