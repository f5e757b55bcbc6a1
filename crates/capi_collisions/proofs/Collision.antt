-- Marks written as bytes, and the outcome of an answer.
use Rattle.base.proofs.Prelude.{◌≡◌, refl, sym, ◌∙◌, Bool, true, false, List, ℕ, ◌≤◌, arith, length, get_or, ne_eqb}
use Rattle.base.proofs.Tabulate.{length_tabulate, tabulated, Written, written_all}
use Rattle.std.proofs.Common.{Result, Ok, Err}
use Rattle.refusal.specs.{declared.Refusal.Refusal, Refusal.number_of}
use Rattle.refusal.proofs.Asked.{number_ne0}
use mathlib.Core.List.{map}
use lib.ListN.{length-map, get_or-map}
use mir.Val.{bool_byte}
use Rattle.base.specs.{Answer.{Answer, accepted, refused}, Tabulate.tabulate}
use Rattle.collision.specs.{declared.Collisions.Collisions, Collision.{Meetings, met, answer_of, ofusc_of, amc_of}}
use Rattle.collision.proofs.Count.{count_le}
use Rattle.capi_collisions.specs.Collision.{byte_of, collision_out}

-- an answer has 48 marks, and their count is no more
abbrev pub Whole : Meetings → Type 0
Whole answer = (length answer.hits ≡ 48) × (answer.count ≤ 48)

whole : (x : Answer (ℕ → Bool)) → Whole (answer_of x)
unfolding answer_of
whole (accepted hit) = (length_tabulate 48 hit, count_le 48 hit)
whole (refused number) = (length_tabulate 48 _, omega arith)

pub ofusc_whole : (size a s b t : ℕ) → Whole (ofusc_of size a s b t)
unfolding ofusc_of
ofusc_whole size a s b t = whole _

pub amc_whole : (a b : ℕ) → Whole (amc_of a b)
unfolding amc_of
amc_whole a b = whole _

-- a mark as the code casts it
pub byte_is : (b : Bool) → bool_byte b ≡ byte_of b
unfolding byte_of
byte_is true = refl
byte_is false = refl

-- the marks below k are written
abbrev pub MarksWritten : (marks : List Bool) (k : ℕ) (bytes : List ℕ) → Type 0
MarksWritten marks k bytes = Written 48 (λ j. byte_of (get_or marks j false)) bytes k

all_marks : (marks : List Bool) → length marks ≡ 48 → tabulate 48 (λ j. byte_of (get_or marks j false)) ≡ map byte_of marks
all_marks marks long = sym (tabulated (byte_of false) (map byte_of marks) 48 _ (length-map marks byte_of ∙ long) (λ k l. get_or-map byte_of marks k false))

-- the outcome of an answer that is no refusal
pub handed : (c : Collisions) (answer : Result Collisions Refusal) → answer ≡ Ok c → Whole (met answer)
    → (k : ℕ) (bytes : List ℕ) → MarksWritten c.hits k bytes → 48 ≤ k
    → (hits : List ℕ) (count : ℕ) → record { refusal = 0; hits = bytes; count = c.count } ≡ collision_out (met answer) hits count
unfolding collision_out
handed c answer is whole k bytes w h hits count =
    let of : Whole (met (Ok c)) = rw is at whole in
    rw (is, written_all w h ∙ all_marks c.hits of.0)

-- and of one that is
pub refused_out : (n : ℕ) (answer : Result Collisions Refusal) (e : Refusal) → answer ≡ Err e → n ≡ number_of e → (hits : List ℕ) (count : ℕ)
    → record { refusal = n; hits = hits; count = count } ≡ collision_out (met answer) hits count
unfolding collision_out
refused_out n answer e is f hits count = rw (is, f, ne_eqb (number_of e) 0 (number_ne0 e))
