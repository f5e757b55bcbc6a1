-- The laws of a plan's places.
use Rattle.base.proofs.Prelude.{◌≡◌, refl, sym, ap, ap₂, ◌∙◌, true, false, List, [], ◌∷◌, ◌++◌, ℕ, zero, suc, ◌+◌, ◌<◌, ◌≤◌, arith, length, take}
use Rattle.base.proofs.Prelude.{drop, get_or, set}
use Rattle.base.proofs.Test.{both_true}
use mathlib.Core.List.{map}
use native.Mathlib.Numerals.{add-one}
use lib.{ListN.{length-map, drop_of_length-le}, Seq.{drop-cons}}
use Rattle.zone.specs.{declared.Zone.Zone, Zone.{unused, is_unused}}
use Rattle.zone.proofs.Judge.{unused_is}
use Rattle.plan.specs.Plan.{in_places, are_unused}

-- what owning an array of structs tells of its length
pub length_mapped : (X Y : Type 0) (f : X → Y) (l : List X) (n : ℕ) → length (map f l) ≡ n → length l ≡ n
length_mapped X Y f l n e = sym (length-map l f) ∙ e

pub places_length : (n : ℕ) (zones : List Zone) → length (in_places n zones) ≡ n
unfolding in_places
places_length zero zones = refl
places_length (suc n) [] = ap suc (places_length n [])
places_length (suc n) (z ∷ zones) = ap suc (places_length n zones)

-- a zone more, put into the first unused place
pub set_places : (n : ℕ) (zones : List Zone) (z : Zone) → length zones < n → set (in_places n zones) (length zones) z ≡ in_places n (zones ++ z ∷ [])
unfolding in_places
set_places zero zones z h = absurd (omega arith)
set_places (suc n) [] z h = refl
set_places (suc n) (y ∷ zones) z h = ap (λ l. y ∷ l) (set_places n zones z (omega arith))

-- the used places are the zones, and the others are unused
pub places_are : (n : ℕ) (zones : List Zone) → length zones ≤ n → (take (length zones) (in_places n zones) ≡ zones) × (are_unused (drop (length zones) (in_places n zones)) ≡ true)
unfolding in_places are_unused is_unused
places_are zero [] h = (refl, refl)
places_are (suc n) [] h = (refl, (places_are n [] (omega arith)).1)
places_are zero (z ∷ zones) h = absurd (omega arith)
places_are (suc n) (z ∷ zones) h = let p = places_are n zones (omega arith) in (ap (λ l. z ∷ l) p.0, p.1)

-- the places from the k-th on are unused where the k-th is, and those after it
module _ (zones : List Zone) (k : ℕ) (e : length zones ≡ 8) where
  module _ (h : k < 8) where
    next : drop k zones ≡ get_or zones k unused ∷ drop (k + 1) zones
    next = rw add-one (drop-cons zones k unused (omega arith))

    pub unused_next : is_unused (get_or zones k unused) ≡ true → are_unused (drop (k + 1) zones) ≡ are_unused (drop k zones)
    unfolding are_unused
    unused_next f = rw (next, f)

    pub unused_no : is_unused (get_or zones k unused) ≡ false → are_unused (drop k zones) ≡ false
    unfolding are_unused
    unused_no f = rw (next, f)

  pub unused_end : 8 ≤ k → are_unused (drop k zones) ≡ true
  unfolding are_unused
  unused_end h = rw (drop_of_length-le zones {i = k} (omega arith))

-- places of which those past the k-th are unused hold just the zones before it
pub places_of : (n k : ℕ) (zones : List Zone) → length zones ≡ n → are_unused (drop k zones) ≡ true → in_places n (take k zones) ≡ zones
unfolding in_places are_unused
places_of zero k [] l e = refl
places_of zero k (z ∷ zones) l e = absurd (omega arith)
places_of (suc n) k [] l e = absurd (omega arith)
places_of (suc n) zero (z ∷ zones) l e =
    let h = both_true (is_unused z) (are_unused zones) e in
    ap₂ (λ y ys. y ∷ ys) (unused_is z h.0) (places_of n zero zones (omega arith) h.1)
places_of (suc n) (suc k) (z ∷ zones) l e = ap (λ ys. z ∷ ys) (places_of n k zones (omega arith) e)
