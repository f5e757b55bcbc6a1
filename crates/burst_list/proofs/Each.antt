-- The questions put to a list, one burst after the other: as a list of tests, and what each number that they come to says.
use Rattle.base.proofs.Prelude.{◌≡◌, refl, sym, ◌∙◌, true, false, List, [], ◌∷◌, ℕ, zero, suc, ◌+◌, ◌-◌, ◌%◌, ◌<◌, ◌≤◌, arith, T, length, eq-eqb, eqb, leb}
use Rattle.base.proofs.Prelude.{eqb-true}
use Rattle.base.proofs.{Test.{cases, both_true, and_is}, Chain.{Questions, ask_all, first_no, counted, is_refused, has_passed}}
use borrow.Author.{Tests.{le-leb, leb-true}, Count.{below_none, below_more}}
use mathlib.Core.Bool.{◌&&◌}
use Rattle.base.specs.Answer.{Answer, accepted, refused}
use Rattle.refusal.specs.{declared.Refusal.Refusal, Refusal.number_of}
use Rattle.refusal.proofs.Asked.{number_ne0}
use Rattle.burst.specs.Burst.{burst_at, is_inside}
use Rattle.burst_list.specs.{List.{burst_count, is_list, is_apart, ask_each, ask_list}, Model.list_refusal}

-- the length of a list
module _ (numbers : List ℕ) where
  pub list_is : length numbers % 4 ≡ 0 → length numbers ≤ 256 → is_list numbers ≡ true
  unfolding is_list
  list_is e h = rw (eq-eqb (length numbers % 4) 0 e, le-leb (length numbers) 256 h)

  -- its test, as the code has it
  pub list_test : (eqb (length numbers % 4) 0 && leb (length numbers) 256) ≡ is_list numbers
  unfolding is_list
  list_test = and_is (eqb (length numbers % 4) 0) (leb (length numbers) 256)

  pub list_of : is_list numbers ≡ true → (length numbers % 4 ≡ 0) × (length numbers ≤ 256)
  unfolding is_list
  list_of e = let h = both_true _ _ e in (eqb-true _ _ h.0, leb-true _ _ h.1)

module _ (subchannel_end slot_end : ℕ) (numbers : List ℕ) where
  -- The questions to so many bursts from position i on, and to the list, each as a list of tests.
  abbrev each : (many i : ℕ) → Questions
  each zero i = []
  each (suc many) i = (is_inside subchannel_end slot_end (burst_at numbers i), 18) ∷ (is_apart numbers i, 19) ∷ each many (suc i)

  abbrev whole : Questions
  whole = (is_list numbers, 18) ∷ each (burst_count numbers) 0

  each_is : {A : Type 0} (many i : ℕ) (rest : Answer A) → ask_each subchannel_end slot_end numbers many i rest ≡ ask_all (each many i) rest
  unfolding ask_each
  each_is zero i rest = refl
  each_is (suc many) i rest = rw (each_is many (suc i) rest)

  each_counted : (many i : ℕ) → T (counted (each many i))
  each_counted zero i = tt
  each_counted (suc many) i = each_counted many (suc i)

  number_is : list_refusal subchannel_end slot_end numbers ≡ first_no whole
  unfolding list_refusal
  number_is = rw (each_is {A = Unit {0}} (burst_count numbers) 0 (accepted tt))

  -- by what the function that puts them says
  module _ {A : Type 0} (rest : Answer A) where
    pub list_no : (e : Refusal) → number_of e ≡ list_refusal subchannel_end slot_end numbers → refused (number_of e) ≡ ask_list subchannel_end slot_end numbers rest
    list_no e f = rw (each_is (burst_count numbers) 0 rest) (is_refused whole (each_counted (burst_count numbers) 0) rest (number_of e) (f ∙ number_is) (number_ne0 e))

    pub list_then : 0 ≡ list_refusal subchannel_end slot_end numbers → rest ≡ ask_list subchannel_end slot_end numbers rest
    list_then e = rw (each_is (burst_count numbers) 0 rest) (has_passed whole (each_counted (burst_count numbers) 0) rest 0 (e ∙ number_is) refl)

  -- a burst that both questions let pass
  pub record Passed (i : ℕ) : Type 0 where
    pub inside : is_inside subchannel_end slot_end (burst_at numbers i) ≡ true
    pub apart : is_apart numbers i ≡ true

  -- those before position i
  abbrev pub Passes : (i : ℕ) → Type 0
  Passes i = (k : ℕ) → k < i → Passed k

  pub no_list : is_list numbers ≡ false → 18 ≡ list_refusal subchannel_end slot_end numbers
  unfolding list_refusal
  no_list e = rw e

  -- Where the bursts before position i pass, the list comes to what the bursts from there on come to.
  module _ (l : is_list numbers ≡ true) where
    past : (i many : ℕ) → i + many ≡ burst_count numbers → Passes i → first_no (each many i) ≡ list_refusal subchannel_end slot_end numbers
    past zero many e p = let all : burst_count numbers ≡ many = omega arith in rw (number_is, all, l)
    past (suc i) many e p = let last = p i (omega arith) in rw (last.inside, last.apart) at (past i (suc many) (omega arith) (λ k h. p k (omega arith)))

    pub all_pass : Passes (burst_count numbers) → 0 ≡ list_refusal subchannel_end slot_end numbers
    all_pass p = past (burst_count numbers) 0 (omega arith) p

    module _ {i : ℕ} (h : i < burst_count numbers) (p : Passes i) where
      pub is_outside : is_inside subchannel_end slot_end (burst_at numbers i) ≡ false → 18 ≡ list_refusal subchannel_end slot_end numbers
      is_outside n = rw n at (past i (suc (burst_count numbers - (i + 1))) (omega arith) p)

      pub is_overlapping : is_inside subchannel_end slot_end (burst_at numbers i) ≡ true → is_apart numbers i ≡ false → 19 ≡ list_refusal subchannel_end slot_end numbers
      is_overlapping t n = rw (t, n) at (past i (suc (burst_count numbers - (i + 1))) (omega arith) p)

  -- 18, 19 or neither
  pub by_list : {A : Type 0} → (18 ≡ list_refusal subchannel_end slot_end numbers → A)
      → (is_list numbers ≡ true → (i : ℕ) → i < burst_count numbers → Passes i → is_inside subchannel_end slot_end (burst_at numbers i) ≡ true → is_apart numbers i ≡ false → A)
      → (is_list numbers ≡ true → Passes (burst_count numbers) → A) → A
  by_list {A} f g h = cases (is_list numbers) (λ l. walk l (burst_count numbers) 0 (omega arith) (below_none _)) (λ n. f (no_list n))
    where
      walk : is_list numbers ≡ true → (many i : ℕ) → i + many ≡ burst_count numbers → Passes i → A
      walk l zero i e p = h l (λ k lt. p k (omega arith))
      walk l (suc many) i e p =
          let lt : i < burst_count numbers = omega arith in
          cases (is_inside subchannel_end slot_end (burst_at numbers i))
          (λ t. cases (is_apart numbers i)
          (λ a. walk l many (i + 1) (omega arith) (below_more Passed i p (record { inside = t; apart = a })))
          (g l i lt p t))
          (λ n. f (is_outside l lt p n))

  pub list_yes : list_refusal subchannel_end slot_end numbers ≡ 0 → (is_list numbers ≡ true) × Passes (burst_count numbers)
  list_yes e = by_list (λ n. absurd (omega arith)) (λ l i h p t n. absurd (omega (arith, is_overlapping l h p t n))) (λ l p. (l, p))

  -- so it is not long
  pub list_most : 0 ≡ list_refusal subchannel_end slot_end numbers → length numbers ≤ 256
  list_most e = (list_of numbers (list_yes (sym e)).0).1
