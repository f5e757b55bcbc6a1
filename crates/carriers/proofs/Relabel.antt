-- The law of a slot speaks only of its own symbols: pilots and addresses may be given otherwise elsewhere.
use Rattle.base.proofs.Prelude.{◌≡◌, sym, ◌∙◌, subst⁻¹, Bool, ℕ, ◌<◌}
use Rattle.carriers.specs.{declared.Spot.Spot, declared.Address.Address, Law.{SlotLaw, PointOf}}

module _
    {symbols subchannels used : ℕ} {pilot pilot' : ℕ → ℕ → Bool} {spot : ℕ → ℕ → Spot} {address address' : ℕ → ℕ → Address}
    (same-pilot : (o u : ℕ) → o < symbols → pilot' o u ≡ pilot o u)
    (same_address : (o u : ℕ) → o < symbols → address' o u ≡ address o u)
    (law : SlotLaw symbols subchannels used pilot spot address) where
  pub relabel : SlotLaw symbols subchannels used pilot' spot address'
  relabel =
      record {
        lies = λ s m hs hm.
            let l = law.lies s m hs hm in
            record { offset_lt = l.offset_lt; used_lt = l.used_lt; no_pilot = same-pilot (spot s m).offset (spot s m).used l.offset_lt ∙ l.no_pilot };
        back = λ s m hs hm. same_address (spot s m).offset (spot s m).used (law.lies s m hs hm).offset_lt ∙ law.back s m hs hm;
        names = λ o u ho hu np. subst⁻¹ (PointOf subchannels) (same_address o u ho) (law.names o u ho hu (sym (same-pilot o u ho) ∙ np));
        forth = λ o u ho hu np.
            subst⁻¹ (λ (a : Address). spot a.subchannel a.index ≡ record { offset = o; used = u }) (same_address o u ho)
            (law.forth o u ho hu (sym (same-pilot o u ho) ∙ np));
      }
