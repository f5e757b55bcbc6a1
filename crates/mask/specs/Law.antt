-- What is claimed of masks: THE LAW OF THE MASK. Its proof is `mask_law`.
use Rattle.std.specs.Prelude.{◌≡◌, true, ℕ, ◌+◌, ◌*◌, ◌<◌}
use Rattle.base.specs.Rank.{RankLaw}
use Rattle.clusters.specs.declared.Physical.{Physical}
use Rattle.clusters.specs.Cluster.{renumber}
use Rattle.clusters.specs.Group.{cluster_starts, group_in}
use Rattle.pusc_dl_lit.specs.Lit.{has_group}
use Rattle.modes.specs.Setup.{Setup, setup_with}
use Rattle.modes.specs.Mode.{subchannels, band}
use Rattle.map.specs.Place.{used_carrier, content_of}
use Rattle.map.specs.Law.{PlacedAt}
use Rattle.mask.specs.Mask.{is_mask, is_lit, is_used_lit, lit_content, lit_subchannels, lit_rank, of_lit_rank, all_lit}

pub record MaskLaw : Type 0 where
  -- A data carrier is lit exactly when its subchannel is.
  pub data_lit : (setup : Setup) (mask slot s m symbol used : ℕ) → used < (band setup).used → PlacedAt setup slot s m symbol (used_carrier setup used)
      → is_used_lit setup mask used ≡ is_lit setup mask s
  -- All of a cluster, its pilots too, goes by the group of its logical number.
  pub cluster-lit : (cell mask place : ℕ) (p : Physical) → place < 14
      → is_used_lit (setup_with 0 2048 cell) mask (p.0 * 14 + place) ≡ has_group mask (group_in cluster_starts (renumber cell p).0)
  -- The lit ones among the first n subchannels, and the ranks below their count, are the same, one for one; so with one n after another in rising order. Of all subchannels the count is `lit_subchannels`.
  pub ranks : (setup : Setup) (mask n : ℕ) → RankLaw (is_lit setup mask) n
  -- So `of_lit_rank` gives for each rank below the count a subchannel of the mode that is lit, and higher ones for higher ranks; and it and `lit_rank` undo each other.
  pub of_rank_lt : (setup : Setup) (mask r : ℕ) → r < lit_subchannels setup mask → of_lit_rank setup mask r < subchannels setup
  pub of_rank_lit : (setup : Setup) (mask r : ℕ) → r < lit_subchannels setup mask → is_lit setup mask (of_lit_rank setup mask r) ≡ true
  pub of_rank_rises : (setup : Setup) (mask q r : ℕ) → q < r → r < lit_subchannels setup mask → of_lit_rank setup mask q < of_lit_rank setup mask r
  pub rank_of_rank : (setup : Setup) (mask r : ℕ) → r < lit_subchannels setup mask → lit_rank setup mask (of_lit_rank setup mask r) ≡ r
  pub of_rank_back : (setup : Setup) (mask s : ℕ) → s < subchannels setup → is_lit setup mask s ≡ true → of_lit_rank setup mask (lit_rank setup mask s) ≡ s
  -- The mask that lights all is a mask, and lights all; so each column holds what it did before there were masks, and a subchannel's rank is its number.
  pub all_passes : (mode : ℕ) → is_mask mode (all_lit mode) ≡ true
  pub all-lit : (setup : Setup) (s : ℕ) → is_lit setup (all_lit setup.mode) s ≡ true
  pub all_used_lit : (setup : Setup) (used : ℕ) → is_used_lit setup (all_lit setup.mode) used ≡ true
  pub all_content : (setup : Setup) (symbol column : ℕ) → lit_content setup (all_lit setup.mode) symbol column ≡ content_of setup symbol column
  pub all_ranks : (setup : Setup) (s : ℕ) → lit_rank setup (all_lit setup.mode) s ≡ s
  pub all_subchannels : (setup : Setup) → lit_subchannels setup (all_lit setup.mode) ≡ subchannels setup
