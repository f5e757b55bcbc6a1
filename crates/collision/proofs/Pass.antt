-- One pass that sets a mark for each of 48 places and counts those that are set.
use Rattle.base.proofs.Prelude.{◌≡◌, refl, ap, ◌∙◌, Bool, true, false, List, ℕ, ◌+◌, ◌<◌, ◌≤◌, arith, set, replicate, length-replicate}
use Rattle.base.proofs.Tabulate.{WrittenAt, at_none, at_next, all_written}
use native.Mathlib.Numerals.{add-one}
use mir.{Val.{bool_byte}}
use Rattle.base.specs.{Answer.accepted, Tabulate.tabulate}
use Rattle.collision.specs.Collision.{count_of, answer_of}
use Rattle.collision.proofs.Count.{one, one_le, count_last}

-- the marks below k are set as they must be, and counted
pub record Passed (hit : ℕ → Bool) (k : ℕ) (hits : List Bool) (count : ℕ) : Type 0 where
  pub marked : WrittenAt false 48 48 (λ j. j) hit hits k
  pub counted : count ≡ count_of (tabulate k hit)

-- a mark as a number, as the code adds it
byte_is : (b : Bool) → bool_byte b ≡ one b
byte_is true = refl
byte_is false = refl

pub byte_le : (b : Bool) → bool_byte b ≤ 1
byte_le b = omega (arith, byte_is b, one_le b)

module _ (hit : ℕ → Bool) where
  pub start : Passed hit 0 (replicate 48 false) 0
  unfolding count_of tabulate
  start = record { marked = at_none (length-replicate 48 false); counted = refl }

  pub step : (k : ℕ) (hits : List Bool) (count : ℕ) (same : Bool) → Passed hit k hits count → k < 48 → same ≡ hit k
      → Passed hit (k + 1) (set hits k same) (count + bool_byte same)
  step k hits count same p h e =
      record {
        marked = at_next p.marked h h (λ j l q. omega arith) same e;
        counted = omega (arith, byte_is same, ap one e, count_last k hit, ap (λ (m : ℕ). count_of (tabulate m hit)) (add-one k));
      }

  pub answer : (k : ℕ) (hits : List Bool) (count : ℕ) → Passed hit k hits count → 48 ≤ k
      → record { refusal = 0; hits = hits; count = count } ≡ answer_of (accepted hit)
  unfolding answer_of
  answer k hits count p h =
      let end : k ≡ 48 = omega (arith, p.marked.within) in
      let counted = p.counted ∙ ap (λ (m : ℕ). count_of (tabulate m hit)) end in
      λ i. record { refusal = 0; hits = all_written p.marked h i; count = counted i }
