-- How far data numbers are moved on by the pilots: a table of it, which each pilot changes at one place.
use Rattle.base.proofs.Prelude.{◌≡◌, refl, ◌∙◌, subst, true, List, ℕ, zero, suc, ◌+◌, ◌-◌, ◌<◌, ◌≤◌, arith, eqb, ltb, leb, length, set, replicate}
use Rattle.base.proofs.Prelude.{lt-ltb, le-ltb, ltb-true, ltb-false, eqb-true, eqb-false, length-set, length-replicate}
use Rattle.base.proofs.Tabulate.{written_none, written_next, written_starts, written_all}
use Rattle.base.proofs.{Test.cases, Rank.{rank_yes, rank_no, rank_most}, LeaveOut.{step_is, skip_le}}
use native.Mathlib.Numerals.{add-one}
use borrow.Author.Tests.{leb-true, leb-false}
use borrow.Author.Count.{below_more}
use lib.Seq.{get_or-set_same, get_or-set_other}
use lib.ListN.{get_or-replicate}
use Rattle.base.specs.{Steps.entry, Rank.rank}
use Rattle.carriers.specs.Band.{fusc_band, carrier_of}
use Rattle.pilot_list.specs.List.{is_pilot_list, used_of_data}
use Rattle.pilot_list.proofs.{Entries.{steep, Accepted, accepted}, Stand.{Stands, stands_none, stands_next, stands-at}}
use Rattle.fusc_rows.specs.Model.{is_before, Moves, Passed}

-- columns are small
pub column_lt : (used : ℕ) → used < 1702 → carrier_of fusc_band used < 2048
unfolding carrier_of
column_lt used h = omega (arith, skip_le 851 used)

below_next : (p d n : ℕ) → ltb p (d + 1 + n) ≡ leb p (d + n)
below_next p d n = cases (leb p (d + n)) (λ e. rw e (lt-ltb p (d + 1 + n) (omega (arith, leb-true p (d + n) e)))) (λ e. rw e (le-ltb p (d + 1 + n) (omega (arith, leb-false p (d + n) e))))

module _ (pilots : List ℕ) (ok : is_pilot_list pilots ≡ true) where
  list : Accepted pilots
  list = accepted pilots ok

  -- a pilot is not below its own position, and not far above it
  pub own_place : (i : ℕ) → i < 166 → (i ≤ entry pilots i) × (entry pilots i - i < 1537)
  own_place i h =
      let long = list.long in
      let zeroth : 0 + i ≡ i = omega arith in
      let end : i + (165 - i) ≡ 165 = omega arith in
      let low = rw zeroth at (steep pilots list.climbs 0 i (omega arith)) in
      let high = rw end at (steep pilots list.climbs i (165 - i) (omega arith)) in
      (omega arith, omega (arith, list.below 165 (omega arith)))

  -- data number 0 has none before it
  pub none_before : (n : ℕ) → n ≤ 166 → rank (is_before pilots 0) n ≡ 0
  unfolding rank
  none_before zero l = refl
  none_before (suc n) l = rank_no (is_before pilots 0) n (le-ltb (entry pilots n) (0 + n) (omega (arith, own_place n (omega arith)))) ∙ none_before n (omega arith)

  -- what data number d is moved on by
  stands : (d n : ℕ) → n ≤ length pilots → Stands pilots n d (rank (is_before pilots (d + 1)) n)
  unfolding rank
  stands d zero l = stands_none pilots d
  stands d (suc n) l =
      let before = rank (is_before pilots (d + 1)) n in
      rw (below_next (entry pilots n) d n, ← add-one n)
      (subst (λ (k : ℕ). Stands pilots (n + 1) d (before + k)) (step_is (leb (entry pilots n) (d + n)))
      (stands_next pilots list.climbs n before (omega arith) d (stands d n (omega arith))))

  pub moved : (d : ℕ) → d < 1536 → used_of_data pilots d ≡ d + rank (is_before pilots (d + 1)) 166
  moved d h = stands-at pilots ok d _ h (stands d 166 (omega (arith, list.long)))

-- a table of none, and one pilot more
pub moves_none : (pilots : List ℕ) → Moves pilots 0 (replicate 1537 0)
unfolding rank
moves_none pilots = record { long = length-replicate {A = ℕ} 1537 0; each = λ d h. rw (get_or-replicate {A = ℕ} 1537 d 0 0 h) (omega arith) }

module _ (pilots table : List ℕ) (i at : ℕ) (e : entry pilots i ≡ at + i) (m : Moves pilots i table) where
  -- at its own data number, and at others
  move_own : at < 1537 → entry table at + 1 + rank (is_before pilots at) (suc i) ≡ rank (is_before pilots (at + 1)) (suc i)
  move_own h =
      omega (
        arith,
        m.each at h,
        rank_no (is_before pilots at) i (le-ltb (entry pilots i) (at + i) (omega arith)),
        rank_yes (is_before pilots (at + 1)) i (lt-ltb (entry pilots i) (at + 1 + i) (omega arith)),
      )

  move_other : (d : ℕ) → d < 1537 → (d ≡ at → ⊥) → entry table d + rank (is_before pilots d) (suc i) ≡ rank (is_before pilots (d + 1)) (suc i)
  move_other d h ne =
      cases (ltb at d)
      (λ t. let l = ltb-true at d t in
      omega (
        arith,
        m.each d h,
        rank_yes (is_before pilots d) i (lt-ltb (entry pilots i) (d + i) (omega arith)),
        rank_yes (is_before pilots (d + 1)) i (lt-ltb (entry pilots i) (d + 1 + i) (omega arith)),
      ))
      (λ t. let l = ltb-false at d t in
      omega (
        arith,
        m.each d h,
        rank_no (is_before pilots d) i (le-ltb (entry pilots i) (d + i) (omega arith)),
        rank_no (is_before pilots (d + 1)) i (le-ltb (entry pilots i) (d + 1 + i) (omega arith)),
      ))

  pub moves_next : at < 1537 → Moves pilots (i + 1) (set table at (entry table at + 1))
  moves_next at_lt =
      let long = m.long in
      record {
        long = length-set table at (entry table at + 1) ∙ m.long;
        each = λ d h.
            rw (add-one i)
            (cases (eqb d at)
            (λ t. let same = eqb-true d at t in rw (same, get_or-set_same table at (entry table at + 1) 0 (omega arith)) (move_own at_lt))
            (λ t. let ne = eqb-false d at t in rw (get_or-set_other table at d (entry table at + 1) 0 ne) (move_other d h ne)));
      }

-- the entries of such a table are small
pub moves_few : (pilots table : List ℕ) (n d : ℕ) → d < 1537 → Moves pilots n table → entry table d ≤ n
moves_few pilots table n d h m = omega (arith, m.each d h, rank_most (is_before pilots (d + 1)) n)

-- what a data number is moved on by, from what the one before it was
pub record MovedOn (pilots : List ℕ) (d passed : ℕ) : Type 0 where
  pub next : passed ≡ rank (is_before pilots (d + 1)) 166
  pub used_is : d + passed ≡ used_of_data pilots d
  pub used_lt : d + passed < 1702

pub moved_on : (pilots table : List ℕ) (d passed x : ℕ) → is_pilot_list pilots ≡ true → Moves pilots 166 table → d < 1536
    → passed ≡ rank (is_before pilots d) 166 → x ≡ entry table d → MovedOn pilots d (passed + x)
moved_on pilots table d passed x ok m h e ex =
    let next : passed + x ≡ rank (is_before pilots (d + 1)) 166 = omega (arith, m.each d (omega arith)) in
    record { next = next; used_is = rw (moved pilots ok d h) (omega arith); used_lt = omega (arith, rank_most (is_before pilots (d + 1)) 166) }

-- one pilot more that is passed, and where no more is
module _ (pilots : List ℕ) (d j : ℕ) (p : Passed pilots d j) where
  pub passed_next : j < 166 → entry pilots j ≤ d + j → Passed pilots d (j + 1)
  passed_next h l = record { within = omega arith; each = below_more (λ i. entry pilots i ≤ d + i) j p.each l }

  passed_at : is_pilot_list pilots ≡ true → d < 1536 → (j < 166 → d + j < entry pilots j) → used_of_data pilots d ≡ d + j
  passed_at ok h then = stands-at pilots ok d j h (record { within = p.within; before = p.each; then = then })

  pub passed_below : is_pilot_list pilots ≡ true → d < 1536 → d + j < entry pilots j → used_of_data pilots d ≡ d + j
  passed_below ok h l = passed_at ok h (λ j-lt. l)

  pub passed_all : is_pilot_list pilots ≡ true → d < 1536 → j ≡ 166 → used_of_data pilots d ≡ d + j
  passed_all ok h e = passed_at ok h (λ j-lt. absurd (omega arith))

  -- a larger data number passes them too
  pub passed_on : (d' : ℕ) → d ≤ d' → Passed pilots d' j
  passed_on d' h = record { within = p.within; each = λ i l. omega (arith, p.each i l) }

-- a loop that writes a row from its first entry on
pub ruleset written = (written_none, written_next, written_starts, written_all)
