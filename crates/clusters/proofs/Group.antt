-- Major groups: their sizes, and numbers and groups, each one for one.
use Rattle.base.proofs.{Prelude.{◌≡◌, ◌∙◌, List, ℕ, ◌+◌, ◌-◌, ◌*◌, ◌%◌, ◌<◌, ◌≤◌, arith, T, eqb, ltb, leb, eqb→eq, ltb→lt, lit<}, Perm.Perm}
use Rattle.base.proofs.{Table.{all, all_at}, Test.cases}
use lib.Dec.{leb→le}
use Rattle.base.specs.Steps.{entry}
use Rattle.clusters.specs.Group.{cluster_starts, subchannel_starts, group_in, group_size, of_size, base_of, base_inverse}
use Rattle.clusters.proofs.Tables.{b12_perm, b8_perm, all_pairs}

pub size_pos : (g : ℕ) → 0 < group_size g
unfolding group_size
size_pos g = cases (eqb (g % 2) 0) (λ e. rw e (lit< tt)) (λ e. rw e (lit< tt))

pub size_most : (g : ℕ) → group_size g ≤ 12
unfolding group_size
size_most g = cases (eqb (g % 2) 0) (λ e. rw e (omega arith)) (λ e. rw e (omega arith))

-- a size that is not 12 is 8
pub size_8 : (g size : ℕ) → size ≡ group_size g → (size ≡ 12 → ⊥) → group_size g ≡ 8
unfolding group_size
size_8 g size s ne = cases (eqb (g % 2) 0) (λ e. absurd (ne (s ∙ rw e))) (λ e. rw e)

pub base_perm : (g : ℕ) → Perm (group_size g) (base_of (group_size g)) (base_inverse (group_size g))
unfolding group_size of_size base_of base_inverse
base_perm g = cases (eqb (g % 2) 0) (λ e. rw e b12_perm) (λ e. rw e b8_perm)

-- the numbers below a total lie in runs, one for each group, of w times the group's size
module _ (starts : List ℕ) (w total : ℕ) where
  abbrev start : ℕ → ℕ
  start x = entry starts (group_in starts x)

  abbrev run : ℕ → ℕ
  run g = w * group_size g

  abbrev number : ℕ → ℕ → ℕ
  number g r = entry starts g + r

  pub record Runs : Type 0 where
    pub group_lt : (x : ℕ) → x < total → group_in starts x < 6
    pub start_le : (x : ℕ) → x < total → start x ≤ x
    pub run_lt : (x : ℕ) → x < total → x - start x < run (group_in starts x)
    pub number_lt : (g r : ℕ) → g < 6 → r < run g → number g r < total
    pub group_of : (g r : ℕ) → g < 6 → r < run g → group_in starts (number g r) ≡ g

  runs : T (all (λ x. ltb (group_in starts x) 6) total) → T (all (λ x. leb (start x) x) total)
      → T (all (λ x. ltb (x - start x) (run (group_in starts x))) total)
      → T (all (λ g. all (λ r. ltb (number g r) total) (run g)) 6) → T (all (λ g. all (λ r. eqb (group_in starts (number g r)) g) (run g)) 6) → Runs
  runs t₁ t₂ t₃ t₄ t₅ =
      record {
        group_lt = λ x h. ltb→lt _ _ (all_at (λ x. ltb (group_in starts x) 6) total t₁ x h);
        start_le = λ x h. leb→le _ _ (all_at (λ x. leb (start x) x) total t₂ x h);
        run_lt = λ x h. ltb→lt _ _ (all_at (λ x. ltb (x - start x) (run (group_in starts x))) total t₃ x h);
        number_lt = λ g r hg hr. ltb→lt _ _ (all_pairs (λ g r. ltb (number g r) total) 6 run t₄ g r hg hr);
        group_of = λ g r hg hr. eqb→eq _ _ (all_pairs (λ g r. eqb (group_in starts (number g r)) g) 6 run t₅ g r hg hr);
      }

pub subchannel_runs : Runs subchannel_starts 1 60
unfolding group_in group_size
subchannel_runs = runs subchannel_starts 1 60 tt tt tt tt tt

pub cluster_runs : Runs cluster_starts 2 120
unfolding group_in group_size
cluster_runs = runs cluster_starts 2 120 tt tt tt tt tt
