-- `clusters::renumber` meets its contract.
use Rattle.base.proofs.Prelude.{◌≡◌, ℕ, ◌+◌, ◌*◌, ◌%◌, arith}
use Rattle.clusters.specs.Cluster.{renumber}
use Rattle.clusters.proofs.{Tables.r_perm}
use Rattle.clusters.proofs.renumber.Goals as goal

-- the cell's turn is reduced before it is added
same_place : (p cell i : ℕ) → i ≡ (p + 13 * cell % 120) % 120 → i ≡ (p + 13 * cell) % 120
same_place p cell i e = omega arith

pub returns : goal.returns
unfolding renumber
returns c =
    let i = c.reduce-i.ensures in
    rw (c.from.ensures, c.requires.0) (rw (same_place c.args.p.0 c.args.cell _ i.0), r_perm.to_lt _ i.1)
