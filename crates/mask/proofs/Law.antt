-- THE LAW OF THE MASK: it rests on the law of the map, and of PUSC downlink on whose group a point's used number is in.
use Rattle.base.proofs.Prelude.{◌≡◌, refl, sym, ap, ◌∙◌, true, ℕ, ◌+◌, ◌*◌, ◌<◌, ◌≤◌, arith, digits_div, eqb, ltb, eqb-true, eq-eqb, ne_eqb, ltb-true}
use Rattle.base.proofs.Prelude.{ltb-false}
use Rattle.base.proofs.{Test.{cases, up_to}, Rank.{rank_law, rank_most, rank_all, rank_as}}
use lib.IntN.{ℤ}
use Rattle.base.specs.{Choice.is_up_to, Rank.{rank, RankLaw}}
use Rattle.carriers.specs.Band.{carrier_of, used_of}
use Rattle.carriers.proofs.Guards.{used-carrier}
use Rattle.centre.specs.Centre.{on_row}
use Rattle.clusters.specs.{declared.Physical.Physical, Cluster.renumber, Group.{cluster_starts, subchannel_starts, group_in}}
use Rattle.pusc_dl_lit.specs.Lit.{has_group}
use Rattle.pusc_dl.specs.Map.{logical_of, used_group}
use Rattle.pusc_dl.proofs.Law.{point_group}
use Rattle.pusc_dl_lit.proofs.Lit.{all_groups}
use Rattle.modes.specs.{Setup.{Setup, setup_with}, Mode.{subchannels, subchannels_of, band}}
use Rattle.map.specs.{Place.{Place, used_carrier, place_at, content_of}, Law.PlacedAt}
use Rattle.formulas.specs.Formula.{spot_of}
use Rattle.modes.specs.Model.{pusc-dl, pusc-ul, ofusc, amc, Ranged, own, fusc}
use Rattle.modes.proofs.{Choice.amc_not_0, ByMode.few, Whole.{band_law, centred}}
use Rattle.map.proofs.Law.{placing}
use Rattle.formulas.proofs.Slot.{slot_law}
use Rattle.mask.specs.{Mask.{is_mask, is_lit_of, is_lit, is_used_lit_of, is_used_lit, lit_content, lit_subchannels, lit_rank, of_lit_rank, all_lit}, Law.MaskLaw}

-- A POINT'S USED NUMBER IS LIT EXACTLY WHEN ITS SUBCHANNEL IS, by its spot.
pub point_lit : {setup : Setup} → Ranged setup → (mask slot s m : ℕ) → s < subchannels setup → m < 48
    → is_used_lit setup mask (spot_of setup slot s m).used ≡ is_lit setup mask s
unfolding is_used_lit_of is_lit_of spot_of subchannels_of
point_lit (own (pusc-dl {cell = cell} h)) mask slot s m hs hm = ap (has_group mask) (point_group cell s m hs hm)
point_lit (own (pusc-ul h)) mask slot s m hs hm = refl
point_lit (own (ofusc w h)) mask slot s m hs hm = refl
point_lit (own (amc q w h)) mask slot s m hs hm = rw (amc_not_0 q)
point_lit (fusc h) mask slot s m hs hm = refl

-- a used number's carrier is that number's
pub used_on_row : {setup : Setup} → Ranged setup → (used : ℕ) → used < (band setup).used → used_of (band setup) (on_row setup.size (used_carrier setup used)) ≡ used
unfolding used_carrier
used_on_row {setup} v used h =
    ap (used_of (band setup)) ((centred v).0.back (carrier_of (band setup) used)) ∙ used-carrier (band setup) setup.size (band_law v) used h

-- so the carrier where a point is placed is lit exactly when the point's subchannel is
pub placed_lit : (setup : Setup) (mask slot s m symbol : ℕ) (carrier : ℤ) → PlacedAt setup slot s m symbol carrier
    → is_used_lit setup mask (used_of (band setup) (on_row setup.size carrier)) ≡ is_lit setup mask s
unfolding place_at
placed_lit setup mask slot s m symbol carrier e =
    let q = placing setup slot s m e in
    let lies = ((slot_law q.is_valid slot).lies s m q.subchannel_lt q.index_lt).used_lt in
    let there = ap (λ (p : Place). used_of (band setup) (on_row setup.size p.carrier)) (sym q.place_is) in
    ap (is_used_lit setup mask) (there ∙ used_on_row q.is_valid.ranged (spot_of setup slot s m).used lies)
    ∙ point_lit q.is_valid.ranged mask slot s m q.subchannel_lt q.index_lt

data_lit : (setup : Setup) (mask slot s m symbol used : ℕ) → used < (band setup).used → PlacedAt setup slot s m symbol (used_carrier setup used)
    → is_used_lit setup mask used ≡ is_lit setup mask s
data_lit setup mask slot s m symbol used h e =
    ap (is_used_lit setup mask) (sym (used_on_row (placing setup slot s m e).is_valid.ranged used h))
    ∙ placed_lit setup mask slot s m symbol (used_carrier setup used) e

cluster-lit : (cell mask place : ℕ) (p : Physical) → place < 14
    → is_used_lit (setup_with 0 2048 cell) mask (p.0 * 14 + place) ≡ has_group mask (group_in cluster_starts (renumber cell p).0)
unfolding is_used_lit_of used_group logical_of renumber
cluster-lit cell mask place p h = rw (digits_div p.0 h)

-- the mask that lights all
all-lit : (setup : Setup) (s : ℕ) → is_lit setup (all_lit setup.mode) s ≡ true
unfolding is_lit_of all_lit
all-lit setup s = cases (eqb setup.mode 0) (λ e. rw e (all_groups subchannel_starts s)) (λ e. rw e)

all_used_lit : (setup : Setup) (used : ℕ) → is_used_lit setup (all_lit setup.mode) used ≡ true
unfolding is_used_lit_of all_lit used_group
all_used_lit setup used = cases (eqb setup.mode 0) (λ e. rw e (all_groups cluster_starts (logical_of setup.cell used).0)) (λ e. rw e)

all_content : (setup : Setup) (symbol column : ℕ) → lit_content setup (all_lit setup.mode) symbol column ≡ content_of setup symbol column
unfolding lit_content
all_content setup symbol column = rw (all_used_lit setup (used_of (band setup) column))

all_passes : (mode : ℕ) → is_mask mode (all_lit mode) ≡ true
unfolding is_mask all_lit is_up_to
all_passes mode = cases (eqb mode 0) (λ e. rw e) (λ e. rw e)

all_ranks : (setup : Setup) (n : ℕ) → rank (is_lit setup (all_lit setup.mode)) n ≡ n
all_ranks setup n = rank_all (is_lit setup (all_lit setup.mode)) n (λ s h. all-lit setup s)

-- the lit subchannels by their ranks
module _ (setup : Setup) (mask : ℕ) where
  ranks : RankLaw (is_lit setup mask) (subchannels setup)
  ranks = rank_law (is_lit setup mask) (subchannels setup)

  -- of two ranks the lower has the lower subchannel: from any other order of the two subchannels the ranks had another
  of_rank_rises : (q r : ℕ) → q < r → r < lit_subchannels setup mask → of_lit_rank setup mask q < of_lit_rank setup mask r
  of_rank_rises q r h l =
      let low = of_lit_rank setup mask q in
      let high = of_lit_rank setup mask r in
      let ranked = ranks.forth q (omega arith) in
      let ranked' = ranks.forth r l in
      cases (ltb low high)
      (ltb-true low high)
      (λ f. cases (ltb high low)
      (λ t. absurd (omega (arith, ranked, ranked', (rank_law (is_lit setup mask) low).rank_lt high (ltb-true high low t) (ranks.unrank_passes r l))))
      (λ g. let same : low ≡ high = omega (arith, ltb-false low high f, ltb-false high low g) in absurd (omega (arith, ranked, ranked', ap (lit_rank setup mask) same))))

pub mask_law : MaskLaw
mask_law =
    record {
      data_lit = data_lit;
      cluster-lit = cluster-lit;
      ranks = λ setup mask. rank_law (is_lit setup mask);
      of_rank_lt = λ setup mask. (ranks setup mask).unrank_lt;
      of_rank_lit = λ setup mask. (ranks setup mask).unrank_passes;
      of_rank_rises = of_rank_rises;
      rank_of_rank = λ setup mask. (ranks setup mask).forth;
      of_rank_back = λ setup mask. (ranks setup mask).back;
      all_passes = all_passes;
      all-lit = all-lit;
      all_used_lit = all_used_lit;
      all_content = all_content;
      all_ranks = all_ranks;
      all_subchannels = λ setup. all_ranks setup (subchannels setup);
    }

-- an accepted mask is small
pub mask_small : (mode mask : ℕ) → is_mask mode mask ≡ true → mask < 64
unfolding is_mask
mask_small mode mask e =
    cases (eqb mode 0)
    (λ t. omega (arith, up_to 63 mask (rw t at e)))
    (λ t. omega (arith, eqb-true mask 0 (rw t at e)))

-- how many subchannels are lit: all, but in mode 0
pub others_count : (setup : Setup) (mask : ℕ) → (setup.mode ≡ 0 → ⊥) → lit_subchannels setup mask ≡ subchannels setup
unfolding is_lit_of
others_count setup mask ne = rank_all (is_lit setup mask) (subchannels setup) (λ s h. rw (ne_eqb setup.mode 0 ne))

pub groups_count : (setup : Setup) (mask : ℕ) → setup.mode ≡ 0 → (n : ℕ) → n ≡ rank (λ s. has_group mask (group_in subchannel_starts s)) 60 → n ≡ lit_subchannels setup mask
unfolding is_lit_of subchannels_of
groups_count setup mask e n q =
    rw (eq-eqb setup.mode 0 e) (q ∙ rank_as _ (is_lit setup mask) 60 (λ s. rw (eq-eqb setup.mode 0 e)))

pub lit_few : {setup : Setup} → Ranged setup → (mask n : ℕ) → n ≡ lit_subchannels setup mask → n ≤ 192
lit_few {setup} v mask n e = omega (arith, rank_most (is_lit setup mask) (subchannels setup), (few v).subchannels_few)
