-- `ground::put_pilot` meets its contract.
use Rattle.base.proofs.Prelude.{◌≡◌, ap, ◌∙◌, ℕ, ◌+◌, ◌*◌, ◌<◌, arith}
use Rattle.modes.specs.{Setup.alone, Mode.band, Model.own}
use Rattle.modes.proofs.ByMode.{row_few, few}
use Rattle.points.specs.Model.{put_point}
use Rattle.lengths.specs.Length.{grid_points}
use Rattle.lengths.proofs.Refusal.{grid_few}
use Rattle.grid.specs.Row.{used_position}
use Rattle.grid.proofs.Slot.{used_position_is}
use Rattle.ground.proofs.{Pilots.run_used}
use Rattle.ground.proofs.put_pilot.Goals as goal

-- the place is a used number, and stands where it is worked out to
used_lt : (c : goal.After-slice_known-2-1) → let a = c.args in a.i * a.step + a.place < (band (alone a.setup)).used
used_lt c = let start = c in rw start.requires.row_bound.2 (run_used start.requires.unlent _ _ start.requires.row_bound.1 (rw start.requires.row_bound.2 at start.requires.row_bound.3))

used_lt_2 : (c : goal.After-carrier) → let a = c.args in a.i * a.step + a.place < (band (alone a.setup)).used
used_lt_2 c = let start = c in rw start.requires.row_bound.2 (run_used start.requires.unlent _ _ start.requires.row_bound.1 (rw start.requires.row_bound.2 at start.requires.row_bound.3))

used_lt_3 : (c : goal.After-put_point-arg-1) → let a = c.args in a.i * a.step + a.place < (band (alone a.setup)).used
used_lt_3 c = let start = c in rw start.requires.row_bound.2 (run_used start.requires.unlent _ _ start.requires.row_bound.1 (rw start.requires.row_bound.2 at start.requires.row_bound.3))

used_lt_4 : (c : goal.After-struct_known-1) → let a = c.args in a.i * a.step + a.place < (band (alone a.setup)).used
used_lt_4 c = let start = c in rw start.requires.row_bound.2 (run_used start.requires.unlent _ _ start.requires.row_bound.1 (rw start.requires.row_bound.2 at start.requires.row_bound.3))

used_lt_5 : (c : goal.After-slice_known-1) → let a = c.args in a.i * a.step + a.place < (band (alone a.setup)).used
used_lt_5 c = let start = c in rw start.requires.row_bound.2 (run_used start.requires.unlent _ _ start.requires.row_bound.1 (rw start.requires.row_bound.2 at start.requires.row_bound.3))

stands : (c : goal.After-slice_known-2-1) → let a = c.args in
    (a.row * a.setup.size + c.carrier.result ≡ used_position (alone a.setup) a.row (a.i * a.step + a.place)) × (a.row * a.setup.size + c.carrier.result < grid_points (alone a.setup))
stands c =
    let start = c in
    used_position_is (own start.requires.unlent) _ _ start.requires.row_bound.0 (used_lt c) _ c.requires.band_value _ c.carrier.ensures

stands_2 : (c : goal.After-carrier) → let a = c.args in
    (a.row * a.setup.size + c.carrier.result ≡ used_position (alone a.setup) a.row (a.i * a.step + a.place)) × (a.row * a.setup.size + c.carrier.result < grid_points (alone a.setup))
stands_2 c =
    let start = c in
    used_position_is (own start.requires.unlent) _ _ start.requires.row_bound.0 (used_lt_2 c) _ c.requires.band_value _ c.carrier.ensures

stands_3 : (c : goal.After-put_point-arg-1) → let a = c.args in
    (a.row * a.setup.size + c.carrier.result ≡ used_position (alone a.setup) a.row (a.i * a.step + a.place)) × (a.row * a.setup.size + c.carrier.result < grid_points (alone a.setup))
stands_3 c =
    let start = c in
    used_position_is (own start.requires.unlent) _ _ start.requires.row_bound.0 (used_lt_3 c) _ c.requires.band_value _ c.carrier.ensures

pub carrier-requires : goal.carrier-requires
carrier-requires c =
    let f = few (own c.requires.unlent) in
    (rw c.requires.band_value (omega arith), omega (arith, used_lt_4 c))

pub returns : goal.returns
returns c =
    let start = c in
    let a = start.args in
    c.put_point.ensures
    ∙ ap (λ (x : ℕ). put_point a.grid.now x a.p) (stands c).0
    ∙ ap (λ (n : ℕ). put_point a.grid.now (used_position (alone a.setup) a.row (a.i * n + a.place)) a.p) start.requires.row_bound.2

pub overflow_mul-used : goal.overflow_mul-used
overflow_mul-used c = omega (arith, used_lt_5 c, few (own c.requires.unlent))

pub overflow_add-used : goal.overflow_add-used
overflow_add-used c = omega (arith, used_lt_5 c, few (own c.requires.unlent))

pub overflow_mul-at : goal.overflow_mul-at
overflow_mul-at c = let start = c in omega (arith, row_few (own start.requires.unlent) start.args.row start.requires.row_bound.0)

pub overflow_add-at : goal.overflow_add-at
overflow_add-at c = omega (arith, stands_2 c, grid_few (own c.requires.unlent))

pub put_point-requires : goal.put_point-requires
put_point-requires c = omega (arith, stands_3 c, c.requires.row_bound.4)
