-- The owner of a subchannel in a slot, and the row of a slot's owners as its bursts mark it one after the other.
use Rattle.base.proofs.Prelude.{◌≡◌, sym, ◌∙◌, Bool, true, false, List, ℕ, ◌+◌, ◌-◌, ◌<◌, ◌≤◌, arith, ltb, length, replicate, length-replicate}
use Rattle.base.proofs.Prelude.{lt-ltb, le-ltb, ltb-true, ltb-false}
use Rattle.base.proofs.{Test.{cases, true_false}, Tabulate.{get_d_tabulate, tabulated, length_tabulate, WrittenOver}}
use Rattle.base.proofs.First.{None, none_more, first_most, first_before, first_passes, first_is, first_none, none_of}
use lib.ListN.{get_or-replicate}
use borrow.Author.Count.{below_none}
use Rattle.base.specs.{Choice.pick, Steps.entry, Tabulate.tabulate, First.first_of}
use Rattle.burst.specs.Burst.{burst_at, is_of, is_covering, is_overlap}
use Rattle.burst.proofs.Cover.{of_is, is-of, covering_is, elsewhere, beside, overlap_is}
use Rattle.burst_list.specs.List.{burst_count, is_apart}
use Rattle.burst_list.proofs.Each.{Passed}
use Rattle.burst_owner.specs.{Owner.{position, no_owner, owner_at, looked_at}, Model.{marked, marked_by}}

-- the first owner, of its position
module _ (numbers : List ℕ) (slot s : ℕ) {p : ℕ} (e : p ≡ position numbers slot s) where
  pub owner_some : p < burst_count numbers → (p ≡ owner_at numbers slot s) × (p + 1 ≡ looked_at numbers slot s)
  unfolding owner_at looked_at
  owner_some h = (rw (← e, lt-ltb p (burst_count numbers) h), rw (← e, lt-ltb p (burst_count numbers) h))

  pub owner_none : burst_count numbers ≤ p → (no_owner ≡ owner_at numbers slot s) × (p ≡ looked_at numbers slot s)
  unfolding owner_at looked_at
  owner_none h =
      let all : p ≡ burst_count numbers = omega (arith, first_most (λ i. is_covering (burst_at numbers i) slot s) (burst_count numbers)) in
      (rw (← e, le-ltb p (burst_count numbers) h), rw (← e, le-ltb p (burst_count numbers) h, all))

-- a row of which m of so many entries from the first on are set to a value
abbrev pub Marking : (first many value : ℕ) (row₀ row : List ℕ) (m : ℕ) → Type 0
Marking first many value row₀ row m = WrittenOver 0 192 many (λ k. first + k) (λ k. value) row₀ row m

pub marking_all : (first many : ℕ) {value : ℕ} {row₀ row : List ℕ} {m : ℕ} → Marking first many value row₀ row m → many ≤ m → row ≡ marked first many value row₀
marking_all first many {value} {row₀} {row} w h =
    tabulated 0 row 192 (λ s. pick (is_of first many s) value (entry row₀ s)) w.written.long
    (λ s l.
    cases (is_of first many s)
    (λ e. let in_run = is-of first many s e in
    let its : first + (s - first) ≡ s = omega (arith, in_run.0) in
    rw e (rw its at (w.written.entries (s - first) (omega (arith, in_run.0, in_run.1)))))
    (λ e. rw e (w.others s (λ k k_lt q. true_false (sym (of_is first many s (omega arith) (omega (arith, w.written.within))) ∙ e)))))

-- which bursts cover a slot and subchannel
abbrev pub covering : (numbers : List ℕ) (slot s i : ℕ) → Bool
covering numbers slot s i = is_covering (burst_at numbers i) slot s

module _ (numbers : List ℕ) (slot s : ℕ) where
  abbrev test : ℕ → Bool
  test = covering numbers slot s

  -- its owner among the first n bursts, and how many of these are looked at
  abbrev pub owner_among : (n : ℕ) → ℕ
  owner_among n = let first = first_of test n in pick (ltb first n) first no_owner

  abbrev looked_among : (n : ℕ) → ℕ
  looked_among n = let first = first_of test n in pick (ltb first n) (first + 1) n

  -- One that covers it, with none before it, is its owner; where none covers it, it has none.
  here : (n i : ℕ) → i < n → None test i → test i ≡ true → (owner_among n ≡ i) × (looked_among n ≡ i + 1)
  here n i h before e =
      let is = first_is test n i h before e in
      let below = lt-ltb i n h in
      (rw (is, below), rw (is, below))

  nowhere : (n : ℕ) → None test n → (owner_among n ≡ no_owner) × (looked_among n ≡ n)
  nowhere n none =
      let all = first_none test n none in
      let end = le-ltb n n (omega arith) in
      (rw (all, end), rw (all, end))

  by_first : {A : Type 0} (n : ℕ) → ((i : ℕ) → i < n → None test i → test i ≡ true → A) → (None test n → A) → A
  by_first n f g =
      cases (ltb (first_of test n) n)
      (λ t. let h = ltb-true (first_of test n) n t in f (first_of test n) h (first_before test n) (first_passes test n h))
      (λ t. g (λ k h. first_before test n k (omega (arith, ltb-false (first_of test n) n t))))

  -- one burst more that does not cover it: the owner is as before
  among_next : (n : ℕ) → test n ≡ false → owner_among (n + 1) ≡ owner_among n
  among_next n e =
      by_first n
      (λ i h before t. (here (n + 1) i (omega arith) before t).0 ∙ sym (here n i h before t).0)
      (λ none. (nowhere (n + 1) (none_more test n none e)).0 ∙ sym (nowhere n none).0)

  -- In an accepted list none before it covers what it covers.
  pub alone : {subchannel_end slot_end n : ℕ} → Passed subchannel_end slot_end numbers n → test n ≡ true → None test n
  unfolding is_apart
  alone {n = n} p e j h =
      cases (test j)
      (λ t. absurd (true_false (sym (overlap_is (burst_at numbers j) (burst_at numbers n) slot s t e) ∙ none_of (λ k. is_overlap (burst_at numbers k) (burst_at numbers n)) n p.apart j h)))
      (λ f. f)

  -- the same of the whole list
  pub owner_here : (i : ℕ) → i < burst_count numbers → None test i → test i ≡ true → (owner_at numbers slot s ≡ i) × (looked_at numbers slot s ≡ i + 1)
  unfolding owner_at looked_at
  owner_here i h before e = here (burst_count numbers) i h before e

  pub no-owner : None test (burst_count numbers) → (owner_at numbers slot s ≡ no_owner) × (looked_at numbers slot s ≡ burst_count numbers)
  unfolding owner_at looked_at
  no-owner none = nowhere (burst_count numbers) none

  -- one of the two
  pub by-owner : {A : Type 0} → ((i : ℕ) → i < burst_count numbers → test i ≡ true → owner_at numbers slot s ≡ i → looked_at numbers slot s ≡ i + 1 → A)
      → (None test (burst_count numbers) → owner_at numbers slot s ≡ no_owner → looked_at numbers slot s ≡ burst_count numbers → A) → A
  by-owner f g =
      by_first (burst_count numbers)
      (λ i h before t. let is = owner_here i h before t in f i h t is.0 is.1)
      (λ none. let is = no-owner none in g none is.0 is.1)

-- a row that the first i bursts have marked
pub record RowMarked (numbers : List ℕ) (slot : ℕ) (row : List ℕ) (i : ℕ) : Type 0 where
  pub long : length row ≡ 192
  pub entries : (k : ℕ) → k < 192 → entry row k ≡ owner_among numbers slot k i

module _ (numbers : List ℕ) (slot : ℕ) where
  pub row_none : RowMarked numbers slot (replicate 192 no_owner) 0
  row_none =
      record {
        long = length-replicate 192 no_owner;
        entries = λ k h. get_or-replicate 192 k no_owner 0 h ∙ sym (nowhere numbers slot k 0 (below_none _)).0;
      }

  module _ {row : List ℕ} {i : ℕ} (w : RowMarked numbers slot row i) where
    row_skip : is_of (burst_at numbers i).slot (burst_at numbers i).slots slot ≡ false → RowMarked numbers slot row (i + 1)
    row_skip e = record { long = w.long; entries = λ k h. w.entries k h ∙ sym (among_next numbers slot k i (elsewhere (burst_at numbers i) slot k e)) }

    module _ {subchannel_end slot_end : ℕ} (p : Passed subchannel_end slot_end numbers i) where
      row_mark : is_of (burst_at numbers i).slot (burst_at numbers i).slots slot ≡ true → RowMarked numbers slot (marked (burst_at numbers i).subchannel (burst_at numbers i).subchannels i row) (i + 1)
      row_mark e =
          record {
            long = length_tabulate 192 _;
            entries = λ k h. get_d_tabulate 192 _ k 0 h
                ∙ cases (is_of (burst_at numbers i).subchannel (burst_at numbers i).subchannels k)
                (λ t. let covers = covering_is (burst_at numbers i) slot k t e in rw t (sym (here numbers slot k (i + 1) i (omega arith) (alone numbers slot k p covers) covers).0))
                (λ f. rw f (w.entries k h ∙ sym (among_next numbers slot k i (beside (burst_at numbers i) slot k f))));
          }

      pub row_next : {row' : List ℕ} → row' ≡ marked_by (burst_at numbers i) slot i row → RowMarked numbers slot row' (i + 1)
      row_next same =
          rw same
          (cases (is_of (burst_at numbers i).slot (burst_at numbers i).slots slot)
          (λ t. rw t (row_mark t))
          (λ f. rw f (row_skip f)))

    pub row_all : i ≡ burst_count numbers → row ≡ tabulate 192 (owner_at numbers slot)
    unfolding owner_at
    row_all e = tabulated 0 row 192 (owner_at numbers slot) w.long (λ k h. w.entries k h ∙ rw e)
