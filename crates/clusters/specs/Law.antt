-- What is claimed of the constant tables, and of the renumbering. The proofs are `tables` (proofs/Tables.antt) and `renumbering` (proofs/Law.antt).
use Rattle.std.specs.Prelude.{◌≡◌, ℕ, ◌<◌}
use Rattle.base.specs.Permutation.{Permutation}
use Rattle.clusters.specs.Table as table
use Rattle.clusters.specs.Cluster.{renumber, unrenumber}
use Rattle.clusters.specs.declared.Physical.{Physical}
use Rattle.clusters.specs.declared.Logical.{Logical}

-- Document 01, "Partial usage": R, of 120 entries, and B, of 12 and of 8, are permutations.
pub record TableRules : Type 0 where
  pub renumbering : Permutation 120 table.renumbering table.renumbering_inverse
  pub base12 : Permutation 12 table.base12 table.base12_inverse
  pub base8 : Permutation 8 table.base8 table.base8_inverse

-- Document 01's formula and its inverse, by which placing goes, undo each other, whatever the cell.
pub record Renumbering : Type 0 where
  -- Both numbers of a cluster are below 120.
  pub logical_lt : (cell : ℕ) (p : Physical) → p.0 < 120 → (renumber cell p).0 < 120
  pub physical_lt : (cell : ℕ) (l : Logical) → l.0 < 120 → (unrenumber cell l).0 < 120
  -- Each of the two undoes the other.
  pub back : (cell : ℕ) (p : Physical) → p.0 < 120 → unrenumber cell (renumber cell p) ≡ p
  pub forth : (cell : ℕ) (l : Logical) → l.0 < 120 → renumber cell (unrenumber cell l) ≡ l
