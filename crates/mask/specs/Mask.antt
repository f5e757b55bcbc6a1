-- Document 02, wish 5: a three-sector site lights a part of the six major groups. A mask has bit g for group g.
use Rattle.std.specs.Prelude.{Bool, true, ℕ, eqb}
use Rattle.base.specs.Choice.{pick, is_up_to}
use Rattle.base.specs.Rank.{rank, unrank}
use Rattle.carriers.specs.Band.{used_of}
use Rattle.clusters.specs.Group.{subchannel_starts, group_in}
use Rattle.pusc_dl_lit.specs.Lit.{has_group}
use Rattle.pusc_dl.specs.Map.{used_group}
use Rattle.modes.specs.Setup.{Setup}
use Rattle.modes.specs.Mode.{subchannels, band}
use Rattle.map.specs.Place.{Content, guard, content_of}

-- 17 Is the mask in its range? 1..63 in mode 0, zero in the others (where all is lit).
unfoldable pub is_mask : (mode mask : ℕ) → Bool
is_mask mode mask = pick (eqb mode 0) (is_up_to 63 mask) (eqb mask 0)

-- Is a subchannel lit? In mode 0 where the mask has its group; in the others all is lit.
unfoldable pub is_lit_of : (mode mask subchannel : ℕ) → Bool
is_lit_of mode mask subchannel = pick (eqb mode 0) (has_group mask (group_in subchannel_starts subchannel)) true

abbrev pub is_lit : (setup : Setup) (mask subchannel : ℕ) → Bool
is_lit setup mask subchannel = is_lit_of setup.mode mask subchannel

-- Is a used number lit, pilot or data? In mode 0 where the mask has the group of its cluster, by the cluster's logical number.
unfoldable pub is_used_lit_of : (mode cell mask used : ℕ) → Bool
is_used_lit_of mode cell mask used = pick (eqb mode 0) (has_group mask (used_group cell used)) true

abbrev pub is_used_lit : (setup : Setup) (mask used : ℕ) → Bool
is_used_lit setup mask used = is_used_lit_of setup.mode setup.cell mask used

-- Pilots and data of unlit groups hold zeros, and look answers nothing there: a column that is not lit holds what a guard does. (Guards and DC have no used number; they hold nothing either way.)
unfoldable pub lit_content : (setup : Setup) (mask symbol column : ℕ) → Content
lit_content setup mask symbol column = pick (is_used_lit setup mask (used_of (band setup) column)) (content_of setup symbol column) guard

-- The lit subchannels, rising: how many they are, and the rank of one of them.
abbrev pub lit_subchannels : (setup : Setup) (mask : ℕ) → ℕ
lit_subchannels setup mask = rank (is_lit setup mask) (subchannels setup)

abbrev pub lit_rank : (setup : Setup) (mask subchannel : ℕ) → ℕ
lit_rank setup mask subchannel = rank (is_lit setup mask) subchannel

-- The reverse: the lit subchannel of a rank.
abbrev pub of_lit_rank : (setup : Setup) (mask r : ℕ) → ℕ
of_lit_rank setup mask r = unrank (is_lit setup mask) (subchannels setup) r

-- The mask that lights all.
unfoldable pub all_lit : (mode : ℕ) → ℕ
all_lit mode = pick (eqb mode 0) 63 0
