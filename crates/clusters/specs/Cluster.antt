-- Clusters. Document 01, "Partial usage": 120 physical clusters; cluster p is used numbers 14p to 14p+13.
use Rattle.std.specs.Prelude.{Bool, true, ℕ, ◌+◌, ◌-◌, ◌*◌, ◌%◌, eqb}
use Rattle.base.specs.Choice.{pick}
use Rattle.base.specs.Steps.{skip, unskip, entry}
use Rattle.clusters.specs.Table.{renumbering, renumbering_inverse}
use Rattle.clusters.specs.declared.Physical.{Physical}
use Rattle.clusters.specs.declared.Logical.{Logical}

-- Document 01's formula: logical = R[(physical + 13·cell) mod 120]. Placing goes by its inverse, `unrenumber`, below; that each undoes the other is `Renumbering` (Law.antt). They are the only passage between the two numbers.
unfoldable pub renumber : (cell : ℕ) (p : Physical) → Logical
renumber cell p = record { 0 = entry renumbering ((p.0 + 13 * cell) % 120) }

-- The reverse: the physical number of a logical one.
unfoldable pub unrenumber : (cell : ℕ) (l : Logical) → Physical
unrenumber cell l = record { 0 = (entry renumbering_inverse l.0 + (120 - 13 * cell % 120)) % 120 }

-- In even symbols cluster places 4 and 8 are pilots, in odd ones 0 and 12.
unfoldable pub first_pilot : (symbol : ℕ) → ℕ
first_pilot symbol = pick (eqb (symbol % 2) 0) 4 0

unfoldable pub second_pilot : (symbol : ℕ) → ℕ
second_pilot symbol = pick (eqb (symbol % 2) 0) 8 12

unfoldable pub is_cluster_pilot : (symbol used : ℕ) → Bool
is_cluster_pilot symbol used = pick (eqb (used % 14) (first_pilot symbol)) true (eqb (used % 14) (second_pilot symbol))

-- Twelve data numbers a cluster, its data places ascending: the place of data number r.
unfoldable pub cluster_place : (symbol r : ℕ) → ℕ
cluster_place symbol r = skip (second_pilot symbol) (skip (first_pilot symbol) r)

-- The reverse: the data number of a place that is no pilot.
unfoldable pub cluster_data : (symbol place : ℕ) → ℕ
cluster_data symbol place = unskip (first_pilot symbol) (unskip (second_pilot symbol) place)
