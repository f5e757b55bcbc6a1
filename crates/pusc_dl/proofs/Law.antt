-- The law of PUSC downlink: from the points of a group to its data numbers, and from these to the used numbers of a symbol.
use Rattle.base.proofs.Prelude.{◌≡◌, false, ℕ, ◌+◌, ◌-◌, ◌*◌, ◌/◌, ◌%◌, ◌<◌, div-add-mod', arith, digits_div, digits_mod, digits_lt}
use native.Mathlib.Nat.{add-sub_cancel_left}
use Rattle.base.specs.Steps.{entry}
use Rattle.carriers.specs.Law.{SlotLaw, DataSpot, PointOf}
use Rattle.clusters.specs.{Cluster.{unrenumber, is_cluster_pilot, cluster_place}, Group.{cluster_starts, subchannel_starts, group_in, group_size}}
use Rattle.clusters.specs.{declared.Physical.Physical, declared.Logical.Logical}
use Rattle.pusc_dl.specs.{Inner.{group_data, group_subchannel}, Map.{spot_of, address_of, group_used, logical_of, used_group, used_data}}
use Rattle.clusters.proofs.{Cluster.{OnPlace, on_place, OnData, on_data, pilot_place}, Group.{subchannel_runs, cluster_runs}, Law.renumbering}
use Rattle.pusc_dl.proofs.Inner.{group_inner}

module _ (cell : ℕ) where
  -- data number d of group g, on its used number in symbol y of the slot
  module _ (y g d : ℕ) (hy : y < 2) (hg : g < 6) (hd : d < 24 * group_size g) where
    abbrev logical : Logical
    logical = record { 0 = entry cluster_starts g + d / 12 }

    run_lt : d / 12 < 2 * group_size g
    run_lt = omega arith

    fits : logical.0 < 120
    fits = cluster_runs.number_lt g (d / 12) hg run_lt

    at_place : OnPlace y (d % 12)
    at_place = on_place y (d % 12) hy (omega arith)

    used_lt : group_used cell y g d < 1680
    unfolding group_used
    used_lt = digits_lt (renumbering.physical_lt cell logical fits) at_place.place_lt

    used_place : group_used cell y g d % 14 ≡ cluster_place y (d % 12)
    unfolding group_used
    used_place = digits_mod (unrenumber cell logical).0 at_place.place_lt

    used_logical : logical_of cell (group_used cell y g d) ≡ logical
    unfolding group_used logical_of
    used_logical = rw (digits_div (unrenumber cell logical).0 at_place.place_lt) (renumbering.forth cell logical fits)

    used-group : used_group cell (group_used cell y g d) ≡ g
    unfolding used_group
    used-group = rw used_logical (cluster_runs.group_of g (d / 12) hg run_lt)

    used-data : used_data cell y (group_used cell y g d) ≡ d
    unfolding used_data
    used-data = rw (used_logical, used-group, used_place, at_place.back) (omega arith)

  -- a used number that is no pilot, and its data number
  module _ (y u : ℕ) (hy : y < 2) (hu : u < 1680) (e : is_cluster_pilot y u ≡ false) where
    abbrev physical : Physical
    physical = record { 0 = u / 14 }

    logical_lt : (logical_of cell u).0 < 120
    unfolding logical_of
    logical_lt = renumbering.logical_lt cell physical (omega arith)

    at_data : OnData y (u % 14)
    at_data = on_data y (u % 14) hy (omega arith) (rw (pilot_place y u) at e)

    pub group_lt : used_group cell u < 6
    unfolding used_group
    group_lt = cluster_runs.group_lt (logical_of cell u).0 logical_lt

    pub data_lt : used_data cell y u < 24 * group_size (used_group cell u)
    unfolding used_data used_group
    data_lt = omega (arith, cluster_runs.run_lt (logical_of cell u).0 logical_lt, at_data.data_lt)

    in_run : entry cluster_starts (used_group cell u) + ((logical_of cell u).0 - entry cluster_starts (used_group cell u)) ≡ (logical_of cell u).0
    unfolding used_group
    in_run = omega (arith, cluster_runs.start_le (logical_of cell u).0 logical_lt)

    from_physical : unrenumber cell (logical_of cell u) ≡ physical
    unfolding logical_of
    from_physical = renumbering.back cell physical (omega arith)

    used_forth : group_used cell y (used_group cell u) (used_data cell y u) ≡ u
    unfolding group_used used_data
    used_forth =
        rw (digits_div _ at_data.data_lt, digits_mod _ at_data.data_lt, at_data.forth, in_run, from_physical)
        (div-add-mod' u 14)

    abbrev its_group : ℕ
    its_group = used_group cell u

    abbrev its_data : ℕ
    its_data = used_data cell y u

    abbrev its_subchannel : ℕ
    its_subchannel = group_subchannel (group_size its_group) cell its_data

    subchannel_lt : its_subchannel < 1 * group_size its_group
    subchannel_lt = omega (arith, (group_inner its_group cell).subchannel_lt its_data)

    names : PointOf 60 (address_of cell y u)
    unfolding address_of
    names =
        record {
          subchannel_lt = subchannel_runs.number_lt its_group its_subchannel group_lt subchannel_lt;
          index_lt = omega (arith, (group_inner its_group cell).index_lt its_data);
        }

    placed : spot_of cell (address_of cell y u).subchannel (address_of cell y u).index ≡ record { offset = y; used = u }
    unfolding spot_of address_of
    placed =
        rw (
          subchannel_runs.group_of its_group its_subchannel group_lt subchannel_lt,
          add-sub_cancel_left (entry subchannel_starts its_group) its_subchannel,
          digits_div y ((group_inner its_group cell).index_lt its_data),
          digits_mod y ((group_inner its_group cell).index_lt its_data),
          (group_inner its_group cell).forth its_data data_lt,
          used_forth,
        )

  -- point i of subchannel s
  module _ (s i : ℕ) (hs : s < 60) (hi : i < 48) where
    abbrev g : ℕ
    g = group_in subchannel_starts s

    abbrev r : ℕ
    r = s - entry subchannel_starts g

    abbrev d : ℕ
    d = group_data (group_size g) cell r (i % 24)

    y_lt : i / 24 < 2
    y_lt = omega arith

    k_lt : i % 24 < 24
    k_lt = omega arith

    g_lt : g < 6
    g_lt = subchannel_runs.group_lt s hs

    r_lt : r < group_size g
    r_lt = omega (arith, subchannel_runs.run_lt s hs)

    d_lt : d < 24 * group_size g
    d_lt = (group_inner g cell).number_lt r (i % 24) r_lt k_lt

    s_back : entry subchannel_starts g + r ≡ s
    s_back = omega (arith, subchannel_runs.start_le s hs)

    lies : DataSpot 2 1680 is_cluster_pilot (spot_of cell s i)
    unfolding spot_of
    lies =
        record {
          offset_lt = y_lt;
          used_lt = used_lt (i / 24) g d y_lt g_lt d_lt;
          no_pilot =
              rw (pilot_place, used_place (i / 24) g d y_lt g_lt d_lt) (at_place (i / 24) g d y_lt g_lt d_lt).no_pilot;
        }

    found : address_of cell (spot_of cell s i).offset (spot_of cell s i).used ≡ record { subchannel = s; index = i }
    unfolding spot_of address_of
    found =
        rw (
          used-group (i / 24) g d y_lt g_lt d_lt,
          used-data (i / 24) g d y_lt g_lt d_lt,
          (group_inner g cell).subchannel_back r (i % 24) r_lt k_lt,
          (group_inner g cell).index_back r (i % 24) r_lt k_lt,
          s_back,
          div-add-mod' i 24,
        )

    -- the group of its used number is its subchannel's
    pub point_group : used_group cell (spot_of cell s i).used ≡ group_in subchannel_starts s
    unfolding spot_of
    point_group = used-group (i / 24) g d y_lt g_lt d_lt

  pub law : SlotLaw 2 60 1680 is_cluster_pilot (spot_of cell) (address_of cell)
  law = record { lies = lies; back = found; names = names; forth = placed }
