-- What is claimed of the constant table. Its proof is `tables`.
use Rattle.base.specs.Permutation.{Permutation}
use Rattle.pusc_ul.specs.Table.{tile_permutation, tile_permutation_inverse}

-- Document 01, "Partial usage": Q, of 70 entries, is a permutation.
pub record TableRules : Type 0 where
  pub tiles : Permutation 70 tile_permutation tile_permutation_inverse
