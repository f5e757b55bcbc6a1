-- The sequence is a permutation, by one computed test for each direction.
use Rattle.base.proofs.{Prelude.refl, Perm.Perm, Table.{table_perm, permutation}}
use Rattle.base.specs.Steps.{entry}
use Rattle.fusc.specs.{Table.{sequence, sequence_inverse}, Law.TableRules}

pub sequence_perm : Perm 32 (entry sequence) (entry sequence_inverse)
sequence_perm = table_perm 32 sequence sequence_inverse refl refl tt tt

-- THE SEQUENCE IS A PERMUTATION.
pub tables : TableRules
tables = record { sequence = permutation refl sequence_perm }
