-- The outcome of `bp_place` and `bp_locate`: the returned number and every out parameter as it is then.
use Rattle.std.specs.Prelude.{ℕ, ℤ}
use Rattle.base.specs.Answer.{Answer, accepted, refused}
use Rattle.map.specs.Place.{Place, Content, guard, dc, pilot, point}

pub record PlaceOut : Type 0 where
  pub refusal : ℕ
  pub symbol : ℕ
  pub carrier : ℤ

-- 0 and the place, or the refusal's number and both parameters as they were
unfoldable pub place_out : (answer : Answer Place) (symbol : ℕ) (carrier : ℤ) → PlaceOut
place_out (accepted place) symbol carrier = record { refusal = 0; symbol = place.symbol; carrier = place.carrier }
place_out (refused number) symbol carrier = record { refusal = number; symbol = symbol; carrier = carrier }

pub record LocateOut : Type 0 where
  pub refusal : ℕ
  pub kind : ℕ
  pub slot : ℕ
  pub subchannel : ℕ
  pub index : ℕ

-- kind: 0 guard, 1 DC, 2 pilot, 3 data. The address is written where kind is 3, else left alone.
unfoldable pub locate_out : (answer : Answer Content) (kind slot subchannel index : ℕ) → LocateOut
locate_out (accepted guard) kind slot subchannel index = record { refusal = 0; kind = 0; slot = slot; subchannel = subchannel; index = index }
locate_out (accepted dc) kind slot subchannel index = record { refusal = 0; kind = 1; slot = slot; subchannel = subchannel; index = index }
locate_out (accepted pilot) kind slot subchannel index = record { refusal = 0; kind = 2; slot = slot; subchannel = subchannel; index = index }
locate_out (accepted (point a s m)) kind slot subchannel index = record { refusal = 0; kind = 3; slot = a; subchannel = s; index = m }
locate_out (refused number) kind slot subchannel index = record { refusal = number; kind = kind; slot = slot; subchannel = subchannel; index = index }
