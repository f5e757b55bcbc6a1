-- The data places of a slot and the data carriers of a subchannel's six tiles are the same, one for one: tests over all 48 places, and over all carriers of six tiles.
use Rattle.base.proofs.{Prelude.{◌≡◌, Bool, true, false, ℕ, ◌<◌, T, eqb, ltb, eqb→eq, ltb→lt}, Test.failed, Table.{all, all_at}}
use mathlib.Core.Bool.{not}
use Rattle.base.specs.Choice.{pick}
use Rattle.pusc_ul.specs.Tile.{is_tile_pilot, place_symbol, place_tile, place_carrier, data_place}

-- data place q lies on a data carrier of a tile, which is known by q alone
pub record OnCarrier (q : ℕ) : Type 0 where
  pub symbol_lt : place_symbol q < 3
  pub tile_lt : place_tile q < 6
  pub carrier_lt : place_carrier q < 4
  pub no_pilot : is_tile_pilot (place_symbol q) (place_carrier q) ≡ false
  pub back : data_place (place_symbol q) (place_tile q) (place_carrier q) ≡ q

pub on_carrier : (q : ℕ) → q < 48 → OnCarrier q
unfolding place_symbol place_tile place_carrier is_tile_pilot data_place
on_carrier q h =
    record {
      symbol_lt = ltb→lt _ _ (all_at (λ q. ltb (place_symbol q) 3) 48 tt q h);
      tile_lt = ltb→lt _ _ (all_at (λ q. ltb (place_tile q) 6) 48 tt q h);
      carrier_lt = ltb→lt _ _ (all_at (λ q. ltb (place_carrier q) 4) 48 tt q h);
      no_pilot = failed _ (all_at (λ q. not (is_tile_pilot (place_symbol q) (place_carrier q))) 48 tt q h);
      back = eqb→eq _ _ (all_at (λ q. eqb (data_place (place_symbol q) (place_tile q) (place_carrier q)) q) 48 tt q h);
    }

-- a test at each data carrier c of tile t in symbol o of the slot
module _ (f : ℕ → ℕ → ℕ → Bool) where
  abbrev of_carrier : ℕ → ℕ → ℕ → Bool
  of_carrier o t c = pick (is_tile_pilot o c) true (f o t c)

  abbrev of_tile : ℕ → ℕ → Bool
  of_tile o t = all (of_carrier o t) 4

  abbrev of_symbol : ℕ → Bool
  of_symbol o = all (of_tile o) 6

-- data carrier c of tile t in symbol o has a data place, which knows all three
pub record OnPlace (o t c : ℕ) : Type 0 where
  pub place_lt : data_place o t c < 48
  pub symbol : place_symbol (data_place o t c) ≡ o
  pub tile : place_tile (data_place o t c) ≡ t
  pub carrier : place_carrier (data_place o t c) ≡ c

pub on_place : (o t c : ℕ) → o < 3 → t < 6 → c < 4 → is_tile_pilot o c ≡ false → OnPlace o t c
unfolding place_symbol place_tile place_carrier is_tile_pilot data_place
on_place o t c ho ht hc e =
    record {
      place_lt = ltb→lt _ _ (at (λ o t c. ltb (data_place o t c) 48) tt);
      symbol = eqb→eq _ _ (at (λ o t c. eqb (place_symbol (data_place o t c)) o) tt);
      tile = eqb→eq _ _ (at (λ o t c. eqb (place_tile (data_place o t c)) t) tt);
      carrier = eqb→eq _ _ (at (λ o t c. eqb (place_carrier (data_place o t c)) c) tt);
    }
  where
    at : (f : ℕ → ℕ → ℕ → Bool) → T (all (of_symbol f) 3) → T (f o t c)
    at f test = rw e at (all_at (of_carrier f o t) 4 (all_at (of_tile f o) 6 (all_at (of_symbol f) 3 test o ho) t ht) c hc)
