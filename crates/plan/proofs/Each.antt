-- What a list gives, one behind the other: the first of it and one more, and putting it into a buffer one by one.
use Rattle.base.proofs.Prelude.{◌≡◌, refl, sym, ap, ◌∙◌, List, [], ◌∷◌, ◌++◌, ℕ, zero, suc, ◌+◌, ◌<◌, ◌≤◌, arith, length, take, get_or}
use mathlib.Core.List.{append_assoc, append-nil}
use native.Mathlib.Numerals.{add-one}
use lib.{ListN.length-append, Seq.{take-suc, take_all}}
use Rattle.text.specs.Text.{Put}
use Rattle.text.proofs.Laws.{put_none, put_then}
use Rattle.plan.specs.Plan.{each}

module _ {A : Type 0} (part : A → List ℕ) where
  each_append : (xs ys : List A) → each part (xs ++ ys) ≡ each part xs ++ each part ys
  unfolding each
  each_append [] ys = refl
  each_append (x ∷ xs) ys = ap (λ l. part x ++ l) (each_append xs ys) ∙ sym (append_assoc (part x) (each part xs) (each part ys))

  pub each_more : (blank : A) (list : List A) (k : ℕ) → k < length list → each part (take (k + 1) list) ≡ each part (take k list) ++ part (get_or list k blank)
  unfolding each
  each_more blank list k h =
      rw (add-one, take-suc list k blank h)
      (each_append (take k list) (get_or list k blank ∷ []) ∙ ap (λ l. each part (take k list) ++ l) (append-nil (part (get_or list k blank))))

  -- fewer give no more bytes
  each_fewer : (list : List A) (k m : ℕ) → k ≤ m → length (each part (take k list)) ≤ length (each part (take m list))
  unfolding each
  each_fewer list zero m h = omega arith
  each_fewer list (suc k) zero h = absurd (omega arith)
  each_fewer [] (suc k) (suc m) h = omega arith
  each_fewer (x ∷ list) (suc k) (suc m) h = simp length-append (omega (arith, each_fewer list k m (omega arith)))

-- While it is put: what the first k of the list give stands in the buffer.
pub record Putting {A : Type 0} (n : ℕ) (part : A → List ℕ) (d : List ℕ) (count : ℕ) (list : List A) (at : ℕ) (dest : List ℕ) (next k : ℕ) : Type 0 where
  pub places : length list ≡ n
  pub below : k ≤ count
  pub kept : length dest ≡ length d
  pub done : Put d at (each part (take k list)) next dest

pub put_begin : {A : Type 0} {n : ℕ} (part : A → List ℕ) (d : List ℕ) (count : ℕ) (list : List A) (at : ℕ) → length list ≡ n → Putting n part d count list at d at 0
unfolding each
put_begin part d count list at p = record { places = p; below = omega arith; kept = refl; done = record { next_is = omega arith; after_is = sym (put_none d at) } }

module _ {A : Type 0} {n : ℕ} {part : A → List ℕ} {d : List ℕ} {count : ℕ} {list : List A} {at : ℕ} {dest : List ℕ} {next k : ℕ} (h : Putting n part d count list at dest next k) where
  module _ (blank : A) (l : k < n) (m : k < count) where
    more : each part (take (k + 1) list) ≡ each part (take k list) ++ part (get_or list k blank)
    more = each_more part blank list k (omega (arith, h.places))

    -- where all of the count have room, one more has
    pub put_room : at + length (each part (take count list)) ≤ length d → next + length (part (get_or list k blank)) ≤ length dest
    put_room r =
        omega (arith, h.done.next_is, h.kept, ap length more ∙ length-append (each part (take k list)) (part (get_or list k blank)), each_fewer part list (k + 1) count (omega arith))

    pub put_again : {next₁ : ℕ} {dest₁ : List ℕ} → at ≤ length d → length dest₁ ≡ length dest → Put dest next (part (get_or list k blank)) next₁ dest₁
        → Putting n part d count list at dest₁ next₁ (k + 1)
    put_again r e p =
        record {
          places = h.places;
          below = omega arith;
          kept = e ∙ h.kept;
          done = rw more (put_then (each part (take k list)) (part (get_or list k blank)) r h.done p);
        }

  -- all of the count, or all that there are
  pub put_all : count ≤ k → Put d at (each part (take count list)) next dest
  put_all l = let e : k ≡ count = omega (arith, h.below) in rw e at h.done

  pub put_end : n ≤ k → Put d at (each part (take count list)) next dest
  put_end l =
      let e : take k list ≡ take count list = take_all k list (omega (arith, h.places)) ∙ sym (take_all count list (omega (arith, h.places, h.below))) in
      rw e at h.done
