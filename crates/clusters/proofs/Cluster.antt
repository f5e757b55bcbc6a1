-- Data numbers and data places of a cluster are the same, one for one, in each of the two symbols of a slot.
use Rattle.base.proofs.{Prelude.{◌≡◌, Bool, true, false, ℕ, ◌%◌, ◌<◌, arith, T, eqb, ltb, eqb→eq, ltb→lt}, Test.failed, Table.all}
use mathlib.Core.Bool.{not}
use Rattle.base.specs.{Choice.pick, Steps.{skip, unskip}}
use Rattle.clusters.specs.Cluster.{is_cluster_pilot, first_pilot, second_pilot, cluster_place, cluster_data}
use Rattle.clusters.proofs.Tables.{all_pairs}

-- data number r lies on a data place, which knows it
pub record OnPlace (y r : ℕ) : Type 0 where
  pub place_lt : cluster_place y r < 14
  pub no_pilot : is_cluster_pilot y (cluster_place y r) ≡ false
  pub back : cluster_data y (cluster_place y r) ≡ r

pub on_place : (y r : ℕ) → y < 2 → r < 12 → OnPlace y r
unfolding is_cluster_pilot first_pilot second_pilot cluster_place cluster_data skip unskip
on_place y r hy hr =
    record {
      place_lt = ltb→lt _ _ (passed (λ y r. ltb (cluster_place y r) 14) tt);
      no_pilot = failed _ (passed (λ y r. not (is_cluster_pilot y (cluster_place y r))) tt);
      back = eqb→eq _ _ (passed (λ y r. eqb (cluster_data y (cluster_place y r)) r) tt);
    }
  where
    passed : (f : ℕ → ℕ → Bool) → T (all (λ y. all (f y) 12) 2) → T (f y r)
    passed f test = all_pairs f 2 (λ y. 12) test y r hy hr

-- a data place has a data number, which knows it
pub record OnData (y w : ℕ) : Type 0 where
  pub data_lt : cluster_data y w < 12
  pub forth : cluster_place y (cluster_data y w) ≡ w

pub on_data : (y w : ℕ) → y < 2 → w < 14 → is_cluster_pilot y w ≡ false → OnData y w
unfolding is_cluster_pilot first_pilot second_pilot cluster_place cluster_data skip unskip
on_data y w hy hw e =
    record {
      data_lt = ltb→lt _ _ (passed (λ y w. ltb (cluster_data y w) 12) tt);
      forth = eqb→eq _ _ (passed (λ y w. eqb (cluster_place y (cluster_data y w)) w) tt);
    }
  where
    passed : (f : ℕ → ℕ → Bool) → T (all (λ y. all (λ w. pick (is_cluster_pilot y w) true (f y w)) 14) 2) → T (f y w)
    passed f test = rw e at (all_pairs (λ y w. pick (is_cluster_pilot y w) true (f y w)) 2 (λ y. 14) test y w hy hw)

-- a pilot is known by the place in its cluster
pub pilot_place : (y u : ℕ) → is_cluster_pilot y u ≡ is_cluster_pilot y (u % 14)
unfolding is_cluster_pilot
pilot_place y u = let e : u % 14 % 14 ≡ u % 14 = omega arith in rw e
