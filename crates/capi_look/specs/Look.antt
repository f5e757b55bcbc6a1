-- The outcome of `bp_look`: the returned refusal and every out parameter as it is then.
use Rattle.std.specs.Prelude.{List, [], ◌∷◌, ℕ, Float}
use Rattle.base.specs.Answer.{Answer, accepted, refused}
use Rattle.points.specs.declared.Point.{Point}
use Rattle.look.specs.Look.{Sight, nothing, pilot_with, data_with}

-- a point as a pair of floats
abbrev pub pair_of : (p : Point) → List Float
pair_of p = p.i ∷ p.q ∷ []

pub record LookOut : Type 0 where
  pub refusal : ℕ
  pub kind : ℕ
  pub point : List Float
  pub slot : ℕ
  pub subchannel : ℕ
  pub index : ℕ

-- kind: 0 nothing (guard, DC, or what is not lit), 2 pilot, 3 data. The point is written at 2 and 3, the address at 3; else they are left alone.
unfoldable pub look_out : (answer : Answer Sight) (kind : ℕ) (point : List Float) (slot subchannel index : ℕ) → LookOut
look_out (accepted nothing) kind point slot subchannel index = record { refusal = 0; kind = 0; point = point; slot = slot; subchannel = subchannel; index = index }
look_out (accepted (pilot_with p)) kind point slot subchannel index = record { refusal = 0; kind = 2; point = pair_of p; slot = slot; subchannel = subchannel; index = index }
look_out (accepted (data_with p a s m)) kind point slot subchannel index = record { refusal = 0; kind = 3; point = pair_of p; slot = a; subchannel = s; index = m }
look_out (refused number) kind point slot subchannel index = record { refusal = number; kind = kind; point = point; slot = slot; subchannel = subchannel; index = index }
