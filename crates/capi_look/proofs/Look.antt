-- What the answers of `look` come to at the C boundary, and that their numbers fit there.
use Rattle.base.proofs.Prelude.{◌≡◌, sym, ap, ◌∙◌, List, ℕ, ◌<◌}
use Rattle.std.proofs.Common.{Result, Ok}
use lib.{IntN.ℤ, Ieee.Float}
use Rattle.base.specs.Answer.{Answer, accepted}
use Rattle.refusal.specs.declared.Refusal.{Refusal}
use Rattle.modes.specs.Setup.{Setup}
use Rattle.map.proofs.Law.{point_small}
use Rattle.points.specs.declared.Point.{Point}
use Rattle.look.specs.{declared.Seen.Seen, declared.Seen.TheVariants.Data, Look.{Sight, look_of, as_sight, seen}}
use Rattle.look.proofs.Looked.{look_point}
use Rattle.capi_look.specs.Look.{look_out}

module _ (setup : Setup) (mask symbol : ℕ) (grid : List Float) (carrier : ℤ) (r : Result Seen Refusal) (e : seen r ≡ look_of setup mask symbol grid carrier) where
  -- an address that is told is small
  pub seen_small : (v : Seen) → r ≡ Ok v → (p : Point) (slot s m : ℕ) → v ≡ Data p slot s m → (slot < 512) × (s < 192) × (m < 48)
  seen_small v h p slot s m f = point_small setup symbol carrier slot s m (look_point setup mask symbol carrier grid p slot s m (sym (ap seen (h ∙ ap (λ (x : Seen). Ok x) f)) ∙ e))

  -- the outcome of a result v is that of the call where the answer is v
  pub seen_out : (kind : ℕ) (pair : List Float) (slot s m : ℕ) (v : Result Seen Refusal) → r ≡ v → look_out (seen v) kind pair slot s m ≡ look_out (look_of setup mask symbol grid carrier) kind pair slot s m
  seen_out kind pair slot s m v h = ap (λ (a : Answer Sight). look_out a kind pair slot s m) (sym (ap seen h) ∙ e)

  -- the same of what is seen
  pub sight_out : (kind : ℕ) (pair : List Float) (slot s m : ℕ) (v w : Seen) → r ≡ Ok v → v ≡ w → look_out (accepted (as_sight w)) kind pair slot s m ≡ look_out (look_of setup mask symbol grid carrier) kind pair slot s m
  sight_out kind pair slot s m v w h f = seen_out kind pair slot s m (Ok w) (h ∙ ap (λ (x : Seen). Ok x) f)
