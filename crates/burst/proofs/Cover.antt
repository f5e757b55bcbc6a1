-- What a burst covers, and what the tests of a list say of it.
use Rattle.base.proofs.{Prelude.{◌≡◌, refl, true, false, ℕ, ◌+◌, ◌-◌, ◌<◌, ◌≤◌, arith, leb, lt-ltb, ltb-true}, Test.{cases, both_true}}
use borrow.Author.Tests.{le-leb, leb-true, leb-false}
use Rattle.base.specs.Choice.{pick}
use Rattle.burst.specs.{declared.Burst.Burst, Burst.{is_of, is_covering, is_within, is_inside, is_shared, is_overlap}, Model.{edges_of, edges_overlap}}

-- runs of numbers
module _ (first many : ℕ) where
  pub of_is : (x : ℕ) → first ≤ x → x < first + many → is_of first many x ≡ true
  unfolding is_of
  of_is x h l = rw (le-leb first x h, lt-ltb x (first + many) l)

  pub is-of : (x : ℕ) → is_of first many x ≡ true → (first ≤ x) × (x < first + many)
  unfolding is_of
  is-of x e = let h = both_true _ _ e in (leb-true _ _ h.0, ltb-true _ _ h.1)

  pub is-within : (limit : ℕ) → is_within limit first many ≡ true → (0 < many) × (first + many ≤ limit)
  unfolding is_within
  is-within limit e = let h = both_true _ _ e in (ltb-true _ _ h.0, leb-true _ _ h.1)

  pub within_is : (limit : ℕ) → 0 < many → first + many ≤ limit → is_within limit first many ≡ true
  unfolding is_within
  within_is limit h l = rw (lt-ltb 0 many h, le-leb (first + many) limit l)

-- two runs with a number in common are shared
pub shared_is : (first many first' many' x : ℕ) → is_of first many x ≡ true → is_of first' many' x ≡ true → is_shared first (first + many) first' (first' + many') ≡ true
unfolding is_shared
shared_is first many first' many' x e e' =
    let h = is-of first many x e in
    let h' = is-of first' many' x e' in
    rw (lt-ltb first (first' + many') (omega arith), lt-ltb first' (first + many) (omega arith))

-- and two that are shared, neither empty, have the larger of their first numbers in common
abbrev pub larger : (first first' : ℕ) → ℕ
larger first first' = pick (leb first first') first' first

pub shared_common : (first many first' many' : ℕ) → 0 < many → 0 < many' → is_shared first (first + many) first' (first' + many') ≡ true
    → (is_of first many (larger first first') ≡ true) × (is_of first' many' (larger first first') ≡ true)
unfolding is_shared
shared_common first many first' many' h h' e =
    let t = both_true _ _ e in
    let l = ltb-true first (first' + many') t.0 in
    let l' = ltb-true first' (first + many) t.1 in
    cases (leb first first')
    (λ q. let le = leb-true first first' q in rw q (of_is first many first' le l', of_is first' many' first' (omega arith) (omega arith)))
    (λ q. let lt = leb-false first first' q in rw q (of_is first many first (omega arith) (omega arith), of_is first' many' first (omega arith) l))

-- a burst
module _ (b : Burst) where
  pub covering : (slot s : ℕ) → is_covering b slot s ≡ true → (is_of b.subchannel b.subchannels s ≡ true) × (is_of b.slot b.slots slot ≡ true)
  unfolding is_covering
  covering slot s e = both_true _ _ e

  pub covering_is : (slot s : ℕ) → is_of b.subchannel b.subchannels s ≡ true → is_of b.slot b.slots slot ≡ true → is_covering b slot s ≡ true
  unfolding is_covering
  covering_is slot s e e' = rw (e, e')

  pub beside : (slot s : ℕ) → is_of b.subchannel b.subchannels s ≡ false → is_covering b slot s ≡ false
  unfolding is_covering
  beside slot s e = rw e

  pub elsewhere : (slot s : ℕ) → is_of b.slot b.slots slot ≡ false → is_covering b slot s ≡ false
  unfolding is_covering
  elsewhere slot s e = cases (is_of b.subchannel b.subchannels s) (λ t. rw (t, e)) (λ f. rw f)

  module _ (subchannel_end slot_end : ℕ) where
    pub inside : is_inside subchannel_end slot_end b ≡ true → ((0 < b.subchannels) × (b.subchannel + b.subchannels ≤ subchannel_end)) × ((0 < b.slots) × (b.slot + b.slots ≤ slot_end))
    unfolding is_inside
    inside e = let h = both_true _ _ e in (is-within b.subchannel b.subchannels subchannel_end h.0, is-within b.slot b.slots slot_end h.1)

    -- what it covers lies in the zone where it does
    pub inside_covers : is_inside subchannel_end slot_end b ≡ true → (slot s : ℕ) → is_covering b slot s ≡ true → (slot < slot_end) × (s < subchannel_end)
    inside_covers e slot s c =
        let ends = inside e in
        let of-subchannels = is-of b.subchannel b.subchannels s (covering slot s c).0 in
        let of_slots = is-of b.slot b.slots slot (covering slot s c).1 in
        (omega arith, omega arith)

    -- and it covers its own first subchannel and slot, so that it is not empty
    pub inside_first : is_inside subchannel_end slot_end b ≡ true → is_covering b b.slot b.subchannel ≡ true
    inside_first e =
        let some = inside e in
        covering_is b.slot b.subchannel
        (of_is b.subchannel b.subchannels b.subchannel (omega arith) (omega arith))
        (of_is b.slot b.slots b.slot (omega arith) (omega arith))

    -- One that covers something lies in the zone where its last subchannel and slot do.
    pub inside_is : (slot s : ℕ) → is_covering b slot s ≡ true → ((slot s : ℕ) → is_covering b slot s ≡ true → (slot < slot_end) × (s < subchannel_end)) → is_inside subchannel_end slot_end b ≡ true
    unfolding is_inside
    inside_is slot s c all =
        let of-subchannels = is-of b.subchannel b.subchannels s (covering slot s c).0 in
        let of_slots = is-of b.slot b.slots slot (covering slot s c).1 in
        let last-slot = b.slot + b.slots - 1 in
        let last-subchannel = b.subchannel + b.subchannels - 1 in
        let last = all last-slot last-subchannel (covering_is last-slot last-subchannel
        (of_is b.subchannel b.subchannels last-subchannel (omega arith) (omega arith))
        (of_is b.slot b.slots last-slot (omega arith) (omega arith))) in
        rw (within_is b.subchannel b.subchannels subchannel_end (omega arith) (omega arith), within_is b.slot b.slots slot_end (omega arith) (omega arith))

-- two bursts
module _ (a b : Burst) where
  -- that cover a slot and subchannel both overlap
  pub overlap_is : (slot s : ℕ) → is_covering a slot s ≡ true → is_covering b slot s ≡ true → is_overlap a b ≡ true
  unfolding is_overlap
  overlap_is slot s e e' =
      rw (
        shared_is a.subchannel a.subchannels b.subchannel b.subchannels s (covering a slot s e).0 (covering b slot s e').0,
        shared_is a.slot a.slots b.slot b.slots slot (covering a slot s e).1 (covering b slot s e').1,
      )

  -- and where they overlap, neither empty, both cover one
  pub overlap_common : (subchannel_end slot_end : ℕ) → is_inside subchannel_end slot_end a ≡ true → is_inside subchannel_end slot_end b ≡ true → is_overlap a b ≡ true
      → let slot = larger a.slot b.slot in let s = larger a.subchannel b.subchannel in (is_covering a slot s ≡ true) × (is_covering b slot s ≡ true)
  unfolding is_overlap
  overlap_common subchannel_end slot_end h h' e =
      let t = both_true _ _ e in
      let some = inside a subchannel_end slot_end h in
      let some' = inside b subchannel_end slot_end h' in
      let in-subchannels = shared_common a.subchannel a.subchannels b.subchannel b.subchannels some.0.0 some'.0.0 t.0 in
      let in-slots = shared_common a.slot a.slots b.slot b.slots some.1.0 some'.1.0 t.1 in
      (covering_is a _ _ in-subchannels.0 in-slots.0, covering_is b _ _ in-subchannels.1 in-slots.1)

  -- Two bursts overlap exactly when their edges say so.
  pub edges-overlap : edges_overlap (edges_of a) (edges_of b) ≡ is_overlap a b
  unfolding edges_overlap is_overlap
  edges-overlap = refl
