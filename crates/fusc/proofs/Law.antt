-- The law of FUSC: from the points of a symbol to its data numbers, and from these to the used numbers that the lent pilots leave.
use Rattle.base.proofs.{Prelude.{◌≡◌, refl, true, false, List, ℕ, ◌<◌, arith, lit<}, Inner.{Inner, inner}}
use Rattle.carriers.specs.Law.{SlotLaw, DataSpot, PointOf}
use Rattle.pilot_list.specs.{List.{is_in, is_pilot_list}, Law.LeftLaw}
use Rattle.pilot_list.proofs.Law.{left_law}
use Rattle.fusc.specs.Map.{data_number, data_subchannel, data_index, spot_of, address_of}
use Rattle.fusc.proofs.Tables.{sequence_perm}

-- Known point: cell 0, subchannel 31, index 46.
pub known_number : data_number 0 31 46 ≡ 573
unfolding data_number
known_number = refl

-- the points of a symbol and its data numbers
pub data_inner : (cell : ℕ) → Inner 48 32 (data_number cell) (data_subchannel cell) (data_index cell)
unfolding data_number data_subchannel data_index
data_inner cell = inner 48 32 sequence_perm cell (lit< tt) (lit< tt)

pub number_lt : (cell s m : ℕ) → s < 32 → m < 48 → data_number cell s m < 1536
number_lt cell = (data_inner cell).number_lt

module _ (pilots : List ℕ) (ok : is_pilot_list pilots ≡ true) (cell : ℕ) where
  left : LeftLaw pilots
  left = left_law pilots ok

  -- point m of subchannel s
  module _ (s m : ℕ) (hs : s < 32) (hm : m < 48) where
    below : data_number cell s m < 1536
    below = number_lt cell s m hs hm

    lies : DataSpot 1 1702 (λ o u. is_in pilots u) (spot_of pilots cell s m)
    unfolding spot_of
    lies = record { offset_lt = lit< tt; used_lt = left.used_lt _ below; no_pilot = left.no_pilot _ below }

    found : address_of pilots cell (spot_of pilots cell s m).used ≡ record { subchannel = s; index = m }
    unfolding spot_of address_of
    found = rw (left.back _ below, (data_inner cell).subchannel_back s m hs hm, (data_inner cell).index_back s m hs hm)

  -- a used number that is no pilot
  module _ (o u : ℕ) (ho : o < 1) (hu : u < 1702) (e : is_in pilots u ≡ false) where
    names : PointOf 32 (address_of pilots cell u)
    unfolding address_of
    names = record { subchannel_lt = (data_inner cell).subchannel_lt _; index_lt = (data_inner cell).index_lt _ }

    placed : spot_of pilots cell (address_of pilots cell u).subchannel (address_of pilots cell u).index ≡ record { offset = o; used = u }
    unfolding spot_of address_of
    placed =
        let z : 0 ≡ o = omega arith in
        rw ((data_inner cell).forth _ (left.data_lt u hu e), left.forth u hu e, z)

  pub law : SlotLaw 1 32 1702 (λ o u. is_in pilots u) (λ s m. spot_of pilots cell s m) (λ o u. address_of pilots cell u)
  law = record { lies = lies; back = found; names = names; forth = placed }
