-- What is claimed of a table that is a permutation.
use Rattle.std.specs.Prelude.{◌≡◌, List, ℕ, ◌<◌, length}
use Rattle.base.specs.Steps.{entry}

-- A table is a permutation of 0..n-1, by its inverse, which tells where in it a number stands. (Its proof is `permutation`.)
pub record Permutation (n : ℕ) (numbers inverse : List ℕ) : Type 0 where
  pub long : length numbers ≡ n
  -- The entries of the table and of its inverse are below n.
  pub number_lt : (i : ℕ) → i < n → entry numbers i < n
  pub place_lt : (x : ℕ) → x < n → entry inverse x < n
  -- Each of the two undoes the other.
  pub back : (i : ℕ) → i < n → entry inverse (entry numbers i) ≡ i
  pub forth : (x : ℕ) → x < n → entry numbers (entry inverse x) ≡ x
