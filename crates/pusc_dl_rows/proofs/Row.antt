-- The spots of a subchannel from the clusters of its group and its bases.
use Rattle.base.proofs.{Prelude.{◌≡◌, List, ℕ, ◌+◌, ◌*◌, ◌/◌, ◌%◌, ◌<◌, arith}, Tabulate.entry_of}
use Rattle.base.specs.{Steps.{rotate, entry}, Tabulate.tabulate, Model.Starts}
use Rattle.clusters.specs.{Cluster.cluster_place, Group.{cluster_starts, group_size}, Model.turned_base}
use Rattle.pusc_dl.specs.{Inner.group_data, Map.group_used}
use Rattle.pusc_dl_rows.specs.Model.{group_cluster, group_spot}
use Rattle.pusc_dl.proofs.Inner.{group_inner}
use Rattle.clusters.proofs.{Group.cluster_runs, Law.renumbering}

-- a turn of the loop over k: what is known of subchannel s, counted in group g, of the group's clusters, and of the bases
pub record Turn (cell : ℕ) (clusters bases : List ℕ) (g s k n : ℕ) : Type 0 where
  pub starts : Starts (2 * group_size g) (group_cluster cell g) clusters
  pub turned : bases ≡ tabulate 24 (λ n. turned_base g cell (s + n))
  pub group_lt : g < 6
  pub s_lt : s < group_size g
  pub k_lt : k < 24
  pub n_is : n ≡ rotate 24 (13 * s) k

-- as the code finds them: the turn of the subchannel is reduced before it is added
pub turn : (cell : ℕ) (clusters bases : List ℕ) (g s k n : ℕ) → Starts (2 * group_size g) (group_cluster cell g) clusters
    → bases ≡ tabulate 24 (λ n. turned_base g cell (s + n)) → g < 6 → s < group_size g → k < 24 → n ≡ (k + 13 * s % 24) % 24
    → Turn cell clusters bases g s k n
turn cell clusters bases g s k n starts turned hg hs hk e =
    record { starts = starts; turned = turned; group_lt = hg; s_lt = hs; k_lt = hk; n_is = omega arith }

module _ {cell : ℕ} {clusters bases : List ℕ} {g s k n : ℕ} (t : Turn cell clusters bases g s k n) where
  abbrev d : ℕ
  d = group_data (group_size g) cell s k

  pub data-number : (size x : ℕ) → size ≡ group_size g → x ≡ entry bases n → n * size + x ≡ d
  unfolding group_data turned_base
  data-number size x es ex = rw (es, ex, entry_of bases 24 (λ n. turned_base g cell (s + n)) t.turned n (omega (arith, t.n_is)), t.n_is)

  -- the cluster of the data number
  pub run_lt : d / 12 < 2 * group_size g
  run_lt = omega (arith, (group_inner g cell).number_lt s k t.s_lt t.k_lt)

  cluster_is : entry clusters (d / 12) ≡ group_cluster cell g (d / 12)
  cluster_is = t.starts (d / 12) run_lt

  pub cluster_lt : entry clusters (d / 12) < 1680
  unfolding group_cluster
  cluster_lt = omega (arith, cluster_is, renumbering.physical_lt cell (record { 0 = entry cluster_starts g + d / 12 }) (cluster_runs.number_lt g (d / 12) t.group_lt run_lt))

  -- its spot in symbol y of the slot
  pub spot : (y m : ℕ) → m / 24 ≡ y → m % 24 ≡ k → y * 2048 + (entry clusters (d / 12) + cluster_place y (d % 12)) ≡ group_spot cell g s m
  unfolding group_spot group_used group_cluster
  spot y m ey er = rw (ey, er, cluster_is)
