-- R and the bases B are permutations, by one computed test for each direction; a base goes on past M; and pilots go by the parity of the symbol.
use Rattle.base.proofs.{Prelude.{◌≡◌, refl, Bool, List, ℕ, ◌+◌, ◌*◌, ◌%◌, ◌<◌, arith, T, eqb, ltb, eqb→eq, ltb→lt}, Perm.Perm}
use Rattle.base.proofs.Table.{all, all_at, table_perm, permutation}
use Rattle.base.specs.Steps.{entry}
use Rattle.clusters.specs.Table.{renumbering, renumbering_inverse, base12, base12_inverse, base8, base8_inverse}
use Rattle.clusters.specs.{Cluster.{is_cluster_pilot, first_pilot, second_pilot}, Law.TableRules}

pub r_perm : Perm 120 (entry renumbering) (entry renumbering_inverse)
r_perm = table_perm 120 renumbering renumbering_inverse refl refl tt tt

pub b12_perm : Perm 12 (entry base12) (entry base12_inverse)
b12_perm = table_perm 12 base12 base12_inverse refl refl tt tt

pub b8_perm : Perm 8 (entry base8) (entry base8_inverse)
b8_perm = table_perm 8 base8 base8_inverse refl refl tt tt

-- THE TABLES ARE PERMUTATIONS.
pub tables : TableRules
tables =
    record {
      renumbering = permutation refl r_perm;
      base12 = permutation refl b12_perm;
      base8 = permutation refl b8_perm;
    }

-- a base on past M goes by i mod M
pub goes_on : (m n : ℕ) (long base : List ℕ) → T (all (λ i. eqb (entry long i) (entry base (i % m))) n) → T (all (λ i. ltb (entry long i) m) n)
    → (i : ℕ) → i < n → (entry long i ≡ entry base (i % m)) × (entry long i < m)
goes_on m n long base same below i h =
    (eqb→eq _ _ (all_at (λ i. eqb (entry long i) (entry base (i % m))) n same i h), ltb→lt _ _ (all_at (λ i. ltb (entry long i) m) n below i h))

-- a test at each pair of numbers, of which the first bounds the second
pub all_pairs : (f : ℕ → ℕ → Bool) (m : ℕ) (n : ℕ → ℕ) → T (all (λ x. all (f x) (n x)) m) → (x y : ℕ) → x < m → y < n x → T (f x y)
all_pairs f m n test x y hx hy = all_at (f x) (n x) (all_at (λ x. all (f x) (n x)) m test x hx) y hy

-- a slot has two symbols, so the offset in the slot tells the parity
pub pilot_parity : (slot o u : ℕ) → is_cluster_pilot (slot * 2 + o) u ≡ is_cluster_pilot o u
unfolding is_cluster_pilot first_pilot second_pilot
pilot_parity slot o u = let e : (slot * 2 + o) % 2 ≡ o % 2 = omega arith in rw e
