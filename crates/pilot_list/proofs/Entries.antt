-- The entries of a list by their positions: what each test of a list says of them.
use Rattle.base.proofs.Prelude.{◌≡◌, refl, sym, ◌∙◌, Bool, true, false, List, [], ◌∷◌, ℕ, zero, suc, ◌+◌, ◌-◌, ◌<◌, ◌≤◌, arith, eqb, ltb, leb, length}
use Rattle.base.proofs.Prelude.{lt-ltb, eq-eqb, ne_eqb, eqb-true, ltb-true, not-false, not-true}
use Rattle.base.proofs.{Test.{cases, both_true, true_false}, First.{none_is, none_not, none_of}}
use mathlib.Core.Bool.{not}
use borrow.Author.Tests.{lt-leb, leb-false}
use native.Mathlib.Nat.{not-suc-le-zero, suc-add}
use Rattle.base.specs.{Steps.entry, First.is_none}
use Rattle.pilot_list.specs.List.{is_in, is_rising, are_below, is_pilot_list}

-- A number is in the list where it is one of the entries.
pub in_at : (list : List ℕ) (i : ℕ) → i < length list → is_in list (entry list i) ≡ true
unfolding is_in
in_at [] i h = absurd (not-suc-le-zero h)
in_at (p ∷ list) zero h = rw (eq-eqb p p refl)
in_at (p ∷ list) (suc i) h = cases (eqb p (entry list i)) (λ e. rw e) (λ e. rw e (in_at list i (omega arith)))

pub record Place (list : List ℕ) (used : ℕ) : Type 0 where
  pub at : ℕ
  pub within : at < length list
  pub is : entry list at ≡ used

pub place_of : (list : List ℕ) (used : ℕ) → is_in list used ≡ true → Place list used
unfolding is_in
place_of [] used e = absurd (true_false (sym e))
place_of (p ∷ list) used e =
    cases (eqb p used)
    (λ t. record { at = 0; within = omega arith; is = eqb-true p used t })
    (λ t. let there = place_of list used (rw t at e) in record { at = suc there.at; within = omega (arith, there.within); is = there.is })

-- and is not where it is none of them
pub not_in : (list : List ℕ) (used : ℕ) → ((i : ℕ) → i < length list → entry list i ≡ used → ⊥) → is_in list used ≡ false
not_in list used none =
    cases (is_in list used)
    (λ e. let there = place_of list used e in absurd (none there.at there.within there.is))
    (λ e. e)

pub in_not : (list : List ℕ) (used : ℕ) → is_in list used ≡ false → (i : ℕ) → i < length list → entry list i ≡ used → ⊥
in_not list used e i h s = true_false (rw (s, e) at (sym (in_at list i h)))

-- each entry larger than the one before
abbrev pub Climbs : (list : List ℕ) → Type 0
Climbs list = (i : ℕ) → i + 1 < length list → entry list i < entry list (i + 1)

pub climbs_of : (list : List ℕ) → is_rising list ≡ true → Climbs list
unfolding is_rising
climbs_of [] e i h = absurd (not-suc-le-zero h)
climbs_of (p ∷ []) e i h = absurd (omega arith)
climbs_of (p ∷ (q ∷ list)) e zero h = ltb-true p q (both_true (ltb p q) _ e).0
climbs_of (p ∷ (q ∷ list)) e (suc i) h = rw suc-add (climbs_of (q ∷ list) (both_true (ltb p q) _ e).1 i (omega arith))

pub rising_of : (list : List ℕ) → Climbs list → is_rising list ≡ true
unfolding is_rising
rising_of [] up = refl
rising_of (p ∷ []) up = refl
rising_of (p ∷ (q ∷ list)) up = rw (lt-ltb p q (up 0 (omega arith)), rising_of (q ∷ list) (λ i h. rw suc-add at (up (suc i) (omega arith))))

-- so each is larger than one before it, by at least as much as it stands behind it
pub steep : (list : List ℕ) → Climbs list → (i k : ℕ) → i + k < length list → entry list i + k ≤ entry list (i + k)
steep list up i zero h = let e : i + 0 ≡ i = omega arith in rw e (omega arith)
steep list up i (suc k) h = let e : i + suc k ≡ i + k + 1 = omega arith in rw e (omega (arith, steep list up i k (omega arith), up (i + k) (omega arith)))

-- each entry below the limit
module _ (limit : ℕ) where
  pub below_of : (list : List ℕ) → are_below limit list ≡ true → (i : ℕ) → i < length list → entry list i < limit
  unfolding are_below
  below_of [] e i h = absurd (not-suc-le-zero h)
  below_of (p ∷ list) e zero h = ltb-true p limit (both_true (ltb p limit) _ e).0
  below_of (p ∷ list) e (suc i) h = below_of list (both_true (ltb p limit) _ e).1 i (omega arith)

  pub are-below : (list : List ℕ) → ((i : ℕ) → i < length list → entry list i < limit) → are_below limit list ≡ true
  unfolding are_below
  are-below [] lt = refl
  are-below (p ∷ list) lt = rw (lt-ltb p limit (lt 0 (omega arith)), are-below list (λ i h. lt (suc i) (omega arith)))

-- what an accepted list is
pub record Accepted (list : List ℕ) : Type 0 where
  pub long : length list ≡ 166
  pub climbs : Climbs list
  pub below : (i : ℕ) → i < 166 → entry list i < 1702

pub accepted : (list : List ℕ) → is_pilot_list list ≡ true → Accepted list
unfolding is_pilot_list
accepted list e =
    let h = both_true (eqb (length list) 166) _ e in
    let t = both_true (is_rising list) _ h.1 in
    let long = eqb-true (length list) 166 h.0 in
    record { long = long; climbs = climbs_of list t.0; below = λ i l. below_of 1702 list t.1 i (omega arith) }

-- ---- What the code finds by asking all entries.

pub in_found : (list : List ℕ) (used : ℕ) {found : Bool} → not found ≡ is_none (λ i. eqb (entry list i) used) (length list) → found ≡ is_in list used
in_found list used {found} e =
    cases (is_in list used)
    (λ t. let there = place_of list used t in
    rw t (not-false found (e ∙ none_not (λ i. eqb (entry list i) used) (length list) there.at there.within (eq-eqb _ _ there.is))))
    (λ f. rw f (not-true found (e ∙ none_is (λ i. eqb (entry list i) used) (length list) (λ i h. ne_eqb _ _ (in_not list used f i h)))))

module _ (list : List ℕ) (long : length list ≡ 166) where
  abbrev pub is_fall : ℕ → Bool
  is_fall i = leb (entry list (i + 1)) (entry list i)

  pub rising_found : is_none is_fall 165 ≡ is_rising list
  rising_found =
      cases (is_rising list)
      (λ t. rw t (none_is is_fall 165 (λ i h. lt-leb _ _ (climbs_of list t i (omega arith)))))
      (λ f. rw f (cases (is_none is_fall 165)
      (λ t. absurd (true_false (sym (rising_of list (λ i h. leb-false _ _ (none_of is_fall 165 t i (omega arith)))) ∙ f)))
      (λ e. e)))

  -- where it rises, all entries are below the limit where the last is
  pub last_decides : is_rising list ≡ true → ltb (entry list 165) 1702 ≡ is_pilot_list list
  unfolding is_pilot_list
  last_decides t =
      let last = are_below 1702 list in
      rw (eq-eqb (length list) 166 long, t)
      (cases (ltb (entry list 165) 1702)
      (λ e. let l = ltb-true (entry list 165) 1702 e in
      rw e (sym (are-below 1702 list (λ i h. let s : i + (165 - i) ≡ 165 = omega arith in omega (arith, rw s at (steep list (climbs_of list t) i (165 - i) (omega arith)))))))
      (λ e. rw e (cases last
      (λ a. absurd (true_false (sym (lt-ltb _ _ (below_of 1702 list a 165 (omega arith))) ∙ e)))
      (λ a. sym a))))

  pub falls_no : is_rising list ≡ false → false ≡ is_pilot_list list
  unfolding is_pilot_list
  falls_no f = rw (eq-eqb (length list) 166 long, f)

pub other_length : (list : List ℕ) → (length list ≡ 166 → ⊥) → false ≡ is_pilot_list list
unfolding is_pilot_list
other_length list h = rw (ne_eqb (length list) 166 h)

-- what each question of the code decides
pub ruleset decided = (other_length, falls_no, last_decides)
