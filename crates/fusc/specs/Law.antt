-- What is claimed of the constant table. The proof is `tables` (proofs/Tables.antt).
use Rattle.base.specs.Permutation.{Permutation}
use Rattle.fusc.specs.Table as table

-- The sequence of document 000, of 32 entries, is a permutation: it is printed there as the basic permutation sequence.
pub record TableRules : Type 0 where
  pub sequence : Permutation 32 table.sequence table.sequence_inverse
