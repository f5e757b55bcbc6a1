-- The points of a symbol: of each seventy tiles the indices go up with the data places.
use Rattle.base.proofs.{Prelude.{◌≡◌, refl, ◌∙◌, true, false, List, ℕ, zero, suc, ◌+◌, ◌-◌, ◌*◌, ◌/◌, ◌%◌, ◌<◌, arith, eqb, lit<}, Test.cases}
use mathlib.Core.Bool.{not}
use mir.Val.{bool_byte}
use Rattle.base.specs.{Choice.pick, Model.Starts, Steps.unrotate}
use Rattle.carriers.specs.Model.{address_number}
use Rattle.pusc_ul.specs.{Tile.{tile_subchannel, is_tile_pilot, data_place}, Map.address_of}
use Rattle.pusc_ul_rows.specs.Model.{tile_place, tile_points, row_number, TileRow}

-- the subchannel of tile k of the seventy from 70t on, from that of tile k
next_subchannel : (cell t k : ℕ) → k < 70 → t < 6 → (tile_subchannel cell k + (70 - t)) % 70 ≡ tile_subchannel cell (t * 70 + k)
unfolding tile_subchannel
next_subchannel cell t k hk ht =
    let block : (t * 70 + k) / 70 ≡ t = omega arith in
    let tile : (t * 70 + k) % 70 ≡ k = omega arith in
    let first : k / 70 ≡ 0 = omega arith in
    let same : k % 70 ≡ k = omega arith in
    rw (block, tile, first, same) (omega arith)

-- data carrier j of a tile, as the code finds it
pub carrier_is : (o j : ℕ) → j + bool_byte (not (eqb o 1)) ≡ tile_place o j
unfolding tile_place
carrier_is o j = cases (eqb o 1) (λ e. rw e (omega arith)) (λ e. rw e)

pub carrier_lt : (o j : ℕ) → j < tile_points o → tile_place o j < 4
unfolding tile_place tile_points
carrier_lt o j = cases (eqb o 1) (λ e. rw e (λ h. omega arith)) (λ e. rw e (λ h. omega arith))

inner : (j : ℕ) → j < 2 → pick (eqb ((j + 1) % 4) 0) true (eqb ((j + 1) % 4) 3) ≡ false
inner zero h = refl
inner (suc zero) h = refl
inner (suc (suc j)) h = absurd (omega arith)

pub no_pilot : (o j : ℕ) → j < tile_points o → is_tile_pilot o (tile_place o j) ≡ false
unfolding is_tile_pilot tile_place tile_points
no_pilot o j = cases (eqb o 1) (λ e. rw e (λ h. refl)) (λ e. rw e (inner j))

pub few_points : (o : ℕ) → tile_points o < 5
unfolding tile_points
few_points o = cases (eqb o 1) (λ e. rw e (lit< tt)) (λ e. rw e (lit< tt))

-- the seventies of tiles that have a point, as the code counts them
pub seventies_are : (o : ℕ) → 12 + bool_byte (eqb o 1) * 12 ≡ tile_points o * 6
unfolding tile_points
seventies_are o = cases (eqb o 1) (λ e. rw e) (λ e. rw e)

pub seventies_few : (o : ℕ) → 12 + bool_byte (eqb o 1) * 12 < 25
seventies_few o = omega (arith, seventies_are o, few_points o)

-- the index on data place q of subchannel s
index_is : (s q : ℕ) → (s * 35 % 48 + q) % 48 ≡ unrotate 48 (13 * s) q
index_is s q = omega arith

-- the number of point j of a tile, from the tile's subchannel
point-number : (cell o p j s : ℕ) → j < tile_points o → s ≡ tile_subchannel cell p
    → s * 48 + (s * 35 % 48 + data_place o (p / 70) (tile_place o j)) % 48 ≡ address_number (address_of cell o (p * 4 + tile_place o j))
unfolding address_of
point-number cell o p j s h e =
    let l = carrier_lt o j h in
    let tile : (p * 4 + tile_place o j) / 4 ≡ p = omega arith in
    let carrier : (p * 4 + tile_place o j) % 4 ≡ tile_place o j = omega arith in
    rw (tile, carrier, ← e, index_is s (data_place o (p / 70) (tile_place o j)))

-- of tile x of seventy m of the row, from the subchannel of tile x
pub number_at : (cell o m x y s : ℕ) → m < tile_points o * 6 → x < 70 → y ≡ tile_subchannel cell x → s ≡ (y + (70 - m % 6)) % 70
    → s * 48 + (s * 35 % 48 + data_place o (m % 6) (tile_place o (m / 6))) % 48 ≡ row_number cell o (m * 70 + x)
unfolding row_number
number_at cell o m x y s h hx ey es =
    let p : (m * 70 + x) % 420 ≡ m % 6 * 70 + x = omega arith in
    let j : (m * 70 + x) / 420 ≡ m / 6 = omega arith in
    let t : (m % 6 * 70 + x) / 70 ≡ m % 6 = omega arith in
    let e : s ≡ tile_subchannel cell (m % 6 * 70 + x) = es ∙ rw ey (next_subchannel cell (m % 6) x hx (omega arith)) in
    rw (p, j) (rw t at (point-number cell o (m % 6 * 70 + x) (m / 6) s (omega arith) e))

-- a row by tile and point
pub row_is : (cell o : ℕ) (row : List ℕ) → Starts (tile_points o * 420) (row_number cell o) row → TileRow cell o row
unfolding row_number
row_is cell o row s p j hp hj =
    let tile : (j * 420 + p) % 420 ≡ p = omega arith in
    let point : (j * 420 + p) / 420 ≡ j = omega arith in
    s (j * 420 + p) (omega arith) ∙ rw (tile, point)
