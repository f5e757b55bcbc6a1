-- A lay: a subchannel's points put at their places are the laid grid.
use Rattle.base.proofs.{Prelude.{◌≡◌, refl, sym, ap, ◌∙◌, Bool, true, List, ℕ, ◌*◌, ◌<◌, arith, eqb, length, eqb-true, eqb-false}, Test.cases}
use lib.Ieee.{Float}
use Rattle.base.specs.Choice.{pick}
use Rattle.modes.specs.{Setup.Setup, Mode.subchannels, Model.Valid}
use Rattle.map.specs.Place.{Content, guard, dc, pilot, point}
use Rattle.mask.specs.Mask.{is_lit}
use Rattle.points.specs.{declared.Point.Point, Points.point_at, Model.puts}
use Rattle.points.proofs.Points.{by_points, length_puts, puts_miss, puts_hit}
use Rattle.lengths.specs.Length.{grid_points}
use Rattle.grid.specs.Grid.{content_at, stands_at}
use Rattle.lay.specs.Lay.{relaid, laid}
use Rattle.grid.proofs.Slot.{lit_holds, stands_alone, point-stands}

module _ (setup : Setup) (v : Valid setup) (mask slot : ℕ) (hs : slot < 512) (s : ℕ) (h : s < subchannels setup) (lit : is_lit setup mask s ≡ true)
    (points grid : List Float) (long : length grid ≡ 2 * grid_points setup) where
  abbrev place : ℕ → ℕ
  place = stands_at setup slot s

  abbrev all : List Float
  all = puts place (point_at points) 48 grid

  module _ (n : ℕ) (hn : n < grid_points setup) where
    -- a place that holds no point of the subchannel is as it was
    kept : ((a m : ℕ) → content_at setup mask slot n ≡ point a s m → ⊥) → point_at all n ≡ point_at grid n
    kept none = puts_miss place (point_at points) 48 grid n (λ j l e. none slot j (ap (content_at setup mask slot) e ∙ lit_holds setup v slot s j h l mask lit))

    own : (a m : ℕ) → content_at setup mask slot n ≡ point a s m → point_at all n ≡ point_at points m
    own a m e =
        let q = point-stands setup v slot hs n hn mask a s m e in
        ap (point_at all) (sym q.stands)
        ∙ puts_hit place (point_at points) 48 grid m q.index_lt
        (λ i l e'. ap (point_at points) (stands_alone setup v slot s i s m h l h q.index_lt (sym e')).1)
        (rw (q.stands, long) (omega arith))

    told : (w : Content) → content_at setup mask slot n ≡ w → point_at all n ≡ relaid s points (point_at grid n) w
    unfolding relaid
    told guard e = kept (λ a m z. let q : ◌≡◌ {A = ℕ} 0 1 = cc in omega arith)
    told dc e = kept (λ a m z. let q : ◌≡◌ {A = ℕ} 0 1 = cc in omega arith)
    told pilot e = kept (λ a m z. let q : ◌≡◌ {A = ℕ} 0 1 = cc in omega arith)
    told (point a b m) e =
        cases (eqb b s)
        (λ t. own a m (e ∙ ap (λ (x : ℕ). point a x m) (eqb-true b s t)) ∙ sym (ap chosen t))
        (λ t. kept (λ a' m' z. eqb-false b s t (let q : point a b m ≡ point a' s m' = sym e ∙ z in cc)) ∙ sym (ap chosen t))
      where
        chosen : Bool → Point
        chosen is = pick is (point_at points m) (point_at grid n)

  pub laid_is : all ≡ laid setup mask slot s points grid
  unfolding laid
  laid_is =
      by_points all (grid_points setup) _ (length_puts place (point_at points) 48 grid ∙ long ∙ omega arith)
      (λ n hn. told n hn (content_at setup mask slot n) refl)
