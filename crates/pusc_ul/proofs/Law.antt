-- The law of PUSC uplink. A tile's turn is a rotation, Q and a rotation; an index goes to its data place by a rotation; the rest is digits.
use Rattle.base.proofs.Prelude.{◌≡◌, ap₂, ◌∙◌, false, ℕ, ◌+◌, ◌*◌, ◌/◌, ◌%◌, ◌<◌, div-add-mod', arith, digits_div, digits_mod, digits_lt, lit<}
use Rattle.base.proofs.Perm.{Perm, rotation, compose}
use Rattle.base.specs.Steps.{rotate, unrotate, entry}
use Rattle.carriers.specs.Law.{SlotLaw, DataSpot, PointOf}
use Rattle.pusc_ul.specs.{Table.{tile_permutation, tile_permutation_inverse}, Tile.{tile_of, tile_subchannel, is_tile_pilot, place_tile, place_carrier}}
use Rattle.pusc_ul.specs.Map.{spot_of, address_of}
use Rattle.pusc_ul.proofs.{Tables.q_perm, Place.{OnCarrier, on_carrier, OnPlace, on_place}}

-- a pilot is known by the carrier in its tile
pub pilot_carrier : (o u : ℕ) → is_tile_pilot o u ≡ is_tile_pilot o (u % 4)
unfolding is_tile_pilot
pilot_carrier o u = let e : u % 4 % 4 ≡ u % 4 = omega arith in rw e

module _ (cell : ℕ) where
  -- tile t of subchannel s, counted from 70t, and back
  abbrev turned : ℕ → ℕ → ℕ
  turned t s = (entry tile_permutation ((s + t) % 70) + cell) % 70

  abbrev unturned : ℕ → ℕ → ℕ
  unturned t x = unrotate 70 t (entry tile_permutation_inverse (unrotate 70 cell x))

  turn : (t : ℕ) → Perm 70 (turned t) (unturned t)
  turn t = compose (compose (rotation 70 t (lit< tt)) q_perm) (rotation 70 cell (lit< tt))

  module _ (s t : ℕ) (hs : s < 70) where
    tile_lt : t < 6 → tile_of cell s t < 420
    unfolding tile_of
    tile_lt ht = digits_lt ht ((turn t).to_lt s hs)

    tile_block : tile_of cell s t / 70 ≡ t
    unfolding tile_of
    tile_block = digits_div t ((turn t).to_lt s hs)

    tile_back : tile_subchannel cell (tile_of cell s t) ≡ s
    unfolding tile_of tile_subchannel
    tile_back = ap₂ unturned tile_block (digits_mod t ((turn t).to_lt s hs)) ∙ (turn t).back s hs

  module _ (p : ℕ) where
    pub subchannel_lt : tile_subchannel cell p < 70
    unfolding tile_subchannel
    subchannel_lt = (turn (p / 70)).from_lt (p % 70) (omega arith)

    tile_forth : tile_of cell (tile_subchannel cell p) (p / 70) ≡ p
    unfolding tile_of tile_subchannel
    tile_forth = let e = (turn (p / 70)).forth (p % 70) (omega arith) in omega arith

  -- the index of a point and its data place
  step : (s : ℕ) → Perm 48 (rotate 48 (13 * s)) (unrotate 48 (13 * s))
  step s = rotation 48 (13 * s) (lit< tt)

  module _ (s m : ℕ) (hs : s < 70) (hm : m < 48) where
    abbrev q : ℕ
    q = rotate 48 (13 * s) m

    at_q : OnCarrier q
    at_q = on_carrier q ((step s).to_lt m hm)

    used-carrier : (tile_of cell s (place_tile q) * 4 + place_carrier q) % 4 ≡ place_carrier q
    used-carrier = digits_mod (tile_of cell s (place_tile q)) at_q.carrier_lt

    lies : DataSpot 3 1680 is_tile_pilot (spot_of cell s m)
    unfolding spot_of
    lies =
        record {
          offset_lt = at_q.symbol_lt;
          used_lt = digits_lt (tile_lt s (place_tile q) hs at_q.tile_lt) at_q.carrier_lt;
          no_pilot = rw (pilot_carrier, used-carrier) at_q.no_pilot;
        }

    found : address_of cell (spot_of cell s m).offset (spot_of cell s m).used ≡ record { subchannel = s; index = m }
    unfolding spot_of address_of
    found =
        let used-tile = digits_div (tile_of cell s (place_tile q)) at_q.carrier_lt in
        rw (used-tile, used-carrier, tile_block s (place_tile q) hs, tile_back s (place_tile q) hs, at_q.back, (step s).back m hm)

  module _ (o u : ℕ) (ho : o < 3) (hu : u < 1680) (e : is_tile_pilot o u ≡ false) where
    at_u : OnPlace o (u / 4 / 70) (u % 4)
    at_u = on_place o (u / 4 / 70) (u % 4) ho (omega arith) (omega arith) (rw (pilot_carrier o u) at e)

    names : PointOf 70 (address_of cell o u)
    unfolding address_of
    names =
        record {
          subchannel_lt = subchannel_lt (u / 4);
          index_lt = (step (tile_subchannel cell (u / 4))).from_lt _ at_u.place_lt;
        }

    placed : spot_of cell (address_of cell o u).subchannel (address_of cell o u).index ≡ record { offset = o; used = u }
    unfolding spot_of address_of
    placed =
        rw ((step (tile_subchannel cell (u / 4))).forth _ at_u.place_lt, at_u.symbol, at_u.tile, at_u.carrier, tile_forth (u / 4), div-add-mod' u 4)

  pub law : SlotLaw 3 70 1680 is_tile_pilot (spot_of cell) (address_of cell)
  law = record { lies = lies; back = found; names = names; forth = placed }
