-- The known points of FUSC hold: a used number that is no pilot has the point of the data number that counts what is left below it.
use Rattle.base.proofs.Prelude.{◌≡◌, refl, sym, ap, ◌∙◌, true, false, List, ℕ, ◌<◌, lit<}
use Rattle.base.specs.{Answer.refused, Steps.skip, Rank.rank, Tabulate.tabulate}
use Rattle.carriers.specs.Band.{carrier_of}
use Rattle.centre.specs.Centre.{from_dc}
use Rattle.pilot_list.specs.List.{is_in, is_rising, are_below, is_pilot_list, is_left, used_of_data, data_of_used}
use Rattle.pilot_list.proofs.Law.{left_law}
use Rattle.fusc.proofs.Law.{known_number}
use Rattle.modes.specs.{Setup.{Setup, setup_lent, setup_with}, Mode.{width_of, cells_of, subchannels_of, symbols_of, band_of}, Model.{fusc, Valid}}
use Rattle.modes.specs.Question.{is_mode, is_four_sizes, is_size, is_cell, is_slot, is_subchannel, is_index, is_lent}
use Rattle.map.specs.Place.{used_carrier, place_at, place_of}
use Rattle.formulas.specs.Formula.{spot_of}
use Rattle.map.proofs.Law.{place_accepts, located_where_placed}
use Rattle.known.specs.Table.{at, minus, lowest, tenths, Fusc}
use Rattle.fusc.specs.Map as fusc-map

module _ (pilots : List ℕ) (ok : is_pilot_list pilots ≡ true) where
  abbrev setup : Setup
  setup = setup_lent 7 2048 0 pilots

  valid : Valid setup
  unfolding is_lent
  valid = record { ranged = fusc (lit< tt); is-lent = ok }

  module _ (used : ℕ) (lt : used < 1702) (out : is_in pilots used ≡ false) (below : data_of_used pilots used ≡ 573) where
    on_used : used_of_data pilots 573 ≡ used
    on_used = ap (used_of_data pilots) (sym below) ∙ (left_law pilots ok).forth used lt out

    placed : place_of setup 0 31 46 ≡ at 0 (used_carrier setup used)
    unfolding place_at spot_of fusc-map.spot_of symbols_of subchannels_of
    placed = place_accepts setup 0 31 46 valid (lit< tt) (lit< tt) (lit< tt) ∙ rw (known_number, on_used)

    pub on : Fusc pilots (used_carrier setup used)
    on = record { is_placed = placed; is_located = located_where_placed setup 0 31 46 placed }

pub on_lowest : Fusc lowest (minus 112)
unfolding is_pilot_list is_rising are_below is_in is_left data_of_used rank tabulate used_carrier from_dc carrier_of skip band_of
on_lowest = on lowest refl 739 (lit< tt) refl refl

pub on_tenths : Fusc (tenths 5) (minus 214)
unfolding is_pilot_list is_rising are_below is_in is_left data_of_used rank tabulate used_carrier from_dc carrier_of skip band_of
on_tenths = on (tenths 5) refl 637 (lit< tt) refl refl

pub lists_refused : (place_of (setup_lent 2 2048 0 lowest) 0 31 46 ≡ refused 20) × (place_of (setup_with 7 2048 0) 0 31 46 ≡ refused 20)
    × (place_of (setup_lent 7 2048 0 (tenths 52)) 0 31 46 ≡ refused 20) × (place_of (setup_lent 7 2048 0 (tabulate 166 (λ k. 5))) 0 31 46 ≡ refused 20)
unfolding place_of is_mode is_four_sizes is_size is_cell is_slot is_subchannel is_index is_lent width_of cells_of subchannels_of is_pilot_list is_rising are_below tabulate
lists_refused = (refl, refl, refl, refl)
