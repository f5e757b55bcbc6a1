-- What the owner of a subchannel and a row of owners come to at the C boundary.
use Rattle.std.specs.Prelude.{Option, Some, None, Ok, unwrap_or}
use Rattle.base.proofs.Prelude.{◌≡◌, refl, ap, List, ℕ, ◌≤◌, ne_eqb}
use Rattle.refusal.specs.{declared.Refusal.Refusal, Refusal.number_of}
use Rattle.refusal.proofs.Asked.{number_ne0}
use Rattle.base.specs.Tabulate.{tabulate}
use Rattle.zone.specs.declared.Zone.{Zone}
use Rattle.burst_owner.specs.{declared.Owned.Owned, Owner.{no_owner, owner_number}}
use Rattle.bursts.specs.declared.OwnerRow.{OwnerRow}
use Rattle.bursts.specs.Owner.{OwnerAnswer, RowAnswer, row_given, owner_said, owner_of}
use Rattle.bursts.proofs.Law.{owner_most}
use Rattle.capi_bursts.specs.Burst.{owner_out, owners_out}
use Rattle.c_boundary.specs.Row.{row_out}

-- an owner and how many were looked at are small
pub owner_small : (size : ℕ) (zone : Zone) (slot s : ℕ) (numbers : List ℕ) (found : Owned) → owner_said (Ok found) ≡ owner_of size zone slot s numbers → (owner_number found.owner ≤ 64) × (found.looked ≤ 64)
owner_small size zone slot s numbers found e =
    rw (ap (λ (o : OwnerAnswer). o.owner) e, ap (λ (o : OwnerAnswer). o.looked) e) (owner_most size zone numbers slot s)

-- 64 where there is no owner
pub or_none : (owner : Option ℕ) → unwrap_or owner 64 ≡ owner_number owner
or_none None = refl
or_none (Some i) = refl

-- a refusal writes nothing
module _ (e : Refusal) {n : ℕ} (f : n ≡ number_of e) where
  pub owner_no : {answer : OwnerAnswer} (owner looked : ℕ) → record { refusal = number_of e; owner = no_owner; looked = 0 } ≡ answer → record { refusal = n; owner = owner; looked = looked } ≡ owner_out answer owner looked
  unfolding owner_out
  owner_no owner looked h = rw (← h, ne_eqb (number_of e) 0 (number_ne0 e), f)

-- a row with the refusal that it has
module _ (found : OwnerRow) (row : List ℕ) where
  pub row_yes : {answer : RowAnswer} → found.refusal ≡ None → row_given found ≡ answer → record { refusal = 0; row = found.owners } ≡ owners_out answer row
  unfolding row_out
  row_yes h g = rw (← g, h)

  pub row_no : {answer : RowAnswer} (e : Refusal) {n : ℕ} → found.refusal ≡ Some e → n ≡ number_of e → row_given found ≡ answer → record { refusal = n; row = row } ≡ owners_out answer row
  unfolding row_out
  row_no e h f g = rw (← g, h, ne_eqb (number_of e) 0 (number_ne0 e), f)
