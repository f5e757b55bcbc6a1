-- The known points hold: each by computing both sides; in line 10, and in the lemma behind line 11, all that is asked of the cell is that it is below 32.
use Rattle.base.proofs.Prelude.{◌≡◌, refl, ℕ, ◌<◌, arith, lt-ltb}
use Rattle.base.specs.{Choice.is_up_to, Steps.{skip, unskip}, Tabulate.tabulate, First.first_of}
use Rattle.centre.specs.Centre.{from_dc, in_range, on_row}
use Rattle.map.specs.Place.{used_carrier, place_of, locate_of, place_at, content_of, data_at}
use Rattle.collision.specs.Collision.{count_of, index_in, column_in, ofusc_hit, amc_hit, answer_of, ofusc_of, amc_of}
use Rattle.mask.specs.Mask.{is_mask}
use Rattle.zone.specs.Zone.{is_zone_mode}
use Rattle.plan.specs.Plan.{each}
use Rattle.plan_read.proofs.Points.{any_first_cell, first_refusals, amc_after_amc, others_after_amc, faults_in_order, mask_outside, masks_refused, fusc_in_plans}
use Rattle.burst_owner.specs.Owner.{owner_at, looked_at}
use Rattle.bursts.specs.{Burst.check_of, Owner.owner_of}
use Rattle.known.specs.Table.{Known, AnyCell, set_from, groups, indices, bursts, corner, check, owner, owns, refusal}
use Rattle.fusc.proofs.Law.{known_number}
use Rattle.known.proofs.Fusc.{on_lowest, on_tenths, lists_refused}
use Rattle.carriers.specs.Band as band
use Rattle.carriers.specs.Bin as bin
use Rattle.clusters.specs.Cluster as cluster
use Rattle.clusters.specs.Group as group
use Rattle.pusc_dl.specs.Inner as inner
use Rattle.pusc_dl.specs.Map as dl
use Rattle.pusc_ul.specs.Map as ul
use Rattle.pusc_ul.specs.Tile as tile
use Rattle.ofusc.specs.Map as ofusc
use Rattle.ofusc.specs.Field as field
use Rattle.amc.specs.Map as amc
use Rattle.amc.specs.Element as element
use Rattle.modes.specs.Mode as mode
use Rattle.formulas.specs.Formula as formula
use Rattle.modes.specs.Question as question
use Rattle.burst.specs.Burst as burst
use Rattle.burst_list.specs.List as list

any_cell : (cell : ℕ) → cell < 32 → AnyCell cell
unfolding skip unskip in_range on_row locate_of content_of data_at mode.cells_of mode.symbols_of mode.band_of formula.is_pilot question.is_mode question.is_size question.is_cell question.is_symbol question.is_carrier question.is_lent band.used_of band.is_guard band.is_dc cluster.is_cluster_pilot cluster.first_pilot cluster.second_pilot
any_cell cell h =
    let e = lt-ltb cell 32 h in
    record { data_in_symbol_0 = rw e; pilot_in_symbol_1 = rw e; guard_below = λ y l. rw (e, lt-ltb y 1024 l); dc_in_the_middle = λ y l. rw (e, lt-ltb y 1024 l) }

counts : ((ofusc_of 1024 0 6 17 0).count ≡ 7) × ((ofusc_of 1024 0 2 244 0).count ≡ 8)
unfolding count_of tabulate skip ofusc_of answer_of ofusc_hit column_in index_in question.is_four_sizes question.is_cell question.is_subchannel mode.width_of mode.cells_of mode.subchannels_of mode.symbols_of mode.band_of formula.spot_of band.carrier_of bin.bin_pilot_place bin.used_of_data ofusc.group_of ofusc.term ofusc.cell_term ofusc.data_number field.modulus field.coefficient field.product field.remainder field.times field.power field.p1 field.p2
counts = (refl, refl)

at_2048 : set_from 0 (ofusc_of 2048 0 2 1010 0).hits ≡ groups
unfolding set_from tabulate skip ofusc_of answer_of ofusc_hit column_in index_in question.is_four_sizes question.is_cell question.is_subchannel mode.width_of mode.cells_of mode.subchannels_of mode.symbols_of mode.band_of formula.spot_of band.carrier_of bin.bin_pilot_place bin.used_of_data ofusc.group_of ofusc.term ofusc.cell_term ofusc.data_number field.modulus field.coefficient field.product field.remainder field.times field.power field.p1 field.p2
at_2048 = refl

adjacent : set_from 0 (amc_of 48 176).hits ≡ indices
unfolding set_from tabulate amc_of answer_of amc_hit question.is_cell mode.cells_of amc.traffic amc.element_of amc.zero_rule amc.off element.add element.times element.sequence
adjacent = refl

zone_check : (check bursts ≡ 0) × (check (corner 1 2 3 2) ≡ 19) × (check (corner 3 2 3 1) ≡ 18) × (check (corner 3 1 3 0) ≡ 18) × (check (corner 4294967295 2 3 1) ≡ 18) × (check (corner 1 4 3 1) ≡ 18)
unfolding is_up_to mode.width_of mode.cells_of mode.subchannels_of question.is_four_sizes question.is_size question.is_cell is_mask is_zone_mode first_of list.is_list burst.is_within burst.is_inside burst.is_shared burst.is_overlap list.is_apart list.ask_each check_of
zone_check = (refl, refl, refl, refl, refl, refl)

zone_owner : (owner 3 1 ≡ owns 0 1) × (owner 4 1 ≡ owns 2 3) × (owner 5 3 ≡ owns 1 2) × (owner 6 1 ≡ owns 64 3) × (owner 512 1 ≡ refusal 4) × (owner 5 4 ≡ refusal 5)
unfolding is_up_to mode.width_of mode.cells_of mode.subchannels_of question.is_four_sizes question.is_size question.is_cell question.is_slot question.is_subchannel is_mask is_zone_mode first_of burst.is_of burst.is_covering list.is_list burst.is_within burst.is_inside burst.is_shared burst.is_overlap list.is_apart list.ask_each owner_at looked_at owner_of
zone_owner = (refl, refl, refl, refl, refl, refl)

pub known : Known
unfolding each tabulate skip from_dc place_of used_carrier place_at mode.shape_of mode.width_of mode.cells_of mode.subchannels_of mode.symbols_of mode.band_of formula.spot_of question.is_mode question.is_four_sizes question.is_size question.is_cell question.is_slot question.is_subchannel question.is_index question.is_lent band.carrier_of bin.bin_pilot_place bin.used_of_data dl.group_used dl.spot_of group.group_in group.group_size group.of_size group.base_of inner.group_data cluster.unrenumber cluster.first_pilot cluster.second_pilot cluster.cluster_place ul.spot_of tile.tile_of tile.place_symbol tile.place_tile tile.place_carrier ofusc.group_of ofusc.term ofusc.cell_term ofusc.data_number field.modulus field.coefficient field.product field.remainder field.times field.power field.p1 field.p2 amc.off amc.zero_rule amc.element_of amc.traffic amc.traffic_number amc.data_number element.add element.times element.sequence
known =
    record {
      line_1 = (refl, refl);
      line_2 = refl;
      line_3 = counts.0;
      line_4 = counts.1;
      line_5 = at_2048;
      line_6 = adjacent;
      line_7 = (refl, refl);
      line_8 = refl;
      line_9 = refl;
      line_10 = any_cell;
      line_11 = (any_first_cell 0 (omega arith), first_refusals.0);
      line_11_twin = any_first_cell;
      line_11_masks = masks_refused;
      amc_after_amc = λ m n h h'. amc_after_amc m n h.0 h.1 h'.0 h'.1;
      others_after_amc = λ m h. others_after_amc m h.0 h.1;
      fusc_is_read = fusc_in_plans.0;
      others_after_fusc = (fusc_in_plans.1, fusc_in_plans.2, fusc_in_plans.3);
      fusc_refused = (fusc_in_plans.4, fusc_in_plans.5, fusc_in_plans.6);
      faults_in_order = faults_in_order;
      mask_outside_mode_0 = mask_outside;
      amc_6x1 = refl;
      amc_2x3 = (refl, refl);
      amc_3x2 = refl;
      amc_1x6 = (refl, refl);
      fusc_number = known_number;
      fusc_lowest = on_lowest;
      fusc_tenths = on_tenths;
      lists_refused = lists_refused;
      bursts_check = zone_check;
      bursts_owner = zone_owner;
    }
