-- Q is a permutation of 0..69: one computed test for each direction.
use Rattle.base.proofs.{Prelude.refl, Perm.Perm, Table.{table_perm, permutation}}
use Rattle.base.specs.Steps.{entry}
use Rattle.pusc_ul.specs.{Table.{tile_permutation, tile_permutation_inverse}, Law.TableRules}

pub q_perm : Perm 70 (entry tile_permutation) (entry tile_permutation_inverse)
q_perm = table_perm 70 tile_permutation tile_permutation_inverse refl refl tt tt

pub tables : TableRules
tables = record { tiles = permutation refl q_perm }
