-- What the answers of `place` and `locate` come to at the C boundary, and that their numbers fit there.
use Rattle.base.proofs.Prelude.{◌≡◌, sym, ap, ◌∙◌, ℕ, ◌<◌, arith}
use Rattle.std.proofs.Common.{Result, Ok}
use lib.IntN.{ℤ}
use mir.{Syntax.w32, Val.SFits}
use Rattle.base.specs.Answer.{Answer, accepted}
use Rattle.refusal.specs.{declared.Refusal.Refusal}
use Rattle.modes.specs.Setup.{Setup}
use Rattle.map.specs.{declared.Placed.Placed, declared.Located.Located}
use Rattle.map.specs.{declared.Located.TheVariants.Data, Place.{Place, Content, as_content, placed, located, place_of, locate_of}}
use Rattle.map.proofs.Law.{place_small, point_small}
use Rattle.capi_map.specs.Map.{place_out, locate_out}

module _ (c : Setup) (slot s m : ℕ) (r : Result Placed Refusal) (e : placed r ≡ place_of c slot s m) where
  pub place_fits : (p : Placed) → r ≡ Ok p → (p.symbol < 3072) × SFits w32 p.carrier
  place_fits p h = let q = place_small c slot s m (sym e ∙ ap placed h) in (q.0, record { sfits = omega arith })

  -- the outcome of a result v is that of the call where the answer is v
  pub placed_out : (symbol : ℕ) (carrier : ℤ) (v : Result Placed Refusal) → r ≡ v → place_out (placed v) symbol carrier ≡ place_out (place_of c slot s m) symbol carrier
  placed_out symbol carrier v h = ap (λ (a : Answer Place). place_out a symbol carrier) (sym (ap placed h) ∙ e)

module _ (c : Setup) (y : ℕ) (k : ℤ) (r : Result Located Refusal) (e : located r ≡ locate_of c y k) where
  pub data_small : (w : Located) → r ≡ Ok w → (slot s m : ℕ) → w ≡ Data slot s m → (slot < 512) × (s < 192) × (m < 48)
  data_small w h slot s m f = point_small c y k slot s m (sym e ∙ ap located (h ∙ ap (λ (x : Located). Ok x) f))

  pub located_out : (kind slot s m : ℕ) (v : Result Located Refusal) → r ≡ v → locate_out (located v) kind slot s m ≡ locate_out (locate_of c y k) kind slot s m
  located_out kind slot s m v h = ap (λ (a : Answer Content). locate_out a kind slot s m) (sym (ap located h) ∙ e)

  -- the same of what a carrier holds
  pub held_out : (kind slot s m : ℕ) (v w : Located) → r ≡ Ok v → v ≡ w → locate_out (accepted (as_content w)) kind slot s m ≡ locate_out (locate_of c y k) kind slot s m
  held_out kind slot s m v w h f = located_out kind slot s m (Ok w) (h ∙ ap (λ (x : Located). Ok x) f)
