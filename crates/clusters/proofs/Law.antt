-- The law of the renumbering: logical and physical clusters are the same, one for one.
use Rattle.base.proofs.{Prelude.{ℕ, ◌*◌, lit<}, Perm.{Perm, rotation, compose}}
use Rattle.base.specs.Steps.{rotate, unrotate, entry}
use Rattle.clusters.specs.{Table.{renumbering as R, renumbering_inverse as R⁻¹}, Cluster.{renumber, unrenumber}, Law.Renumbering}
use Rattle.clusters.proofs.Tables.{r_perm}

-- logical by physical
renumber_perm : (cell : ℕ) → Perm 120 (λ p. entry R (rotate 120 (13 * cell) p)) (λ l. unrotate 120 (13 * cell) (entry R⁻¹ l))
renumber_perm cell = compose (rotation 120 (13 * cell) (lit< tt)) r_perm

-- THE RENUMBERING AND ITS INVERSE UNDO EACH OTHER.
pub renumbering : Renumbering
unfolding renumber unrenumber
renumbering =
    record {
      logical_lt = λ cell p h. (renumber_perm cell).to_lt p.0 h;
      physical_lt = λ cell l h. (renumber_perm cell).from_lt l.0 h;
      back = λ cell p h. λ i. record { 0 = (renumber_perm cell).back p.0 h i };
      forth = λ cell l h. λ i. record { 0 = (renumber_perm cell).forth l.0 h i };
    }
