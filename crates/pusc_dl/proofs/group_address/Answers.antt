-- `pusc_dl::group_address` meets its contract.
use Rattle.base.proofs.Prelude.{◌≡◌, refl, sym, ◌∙◌, arith}
use Rattle.clusters.specs.Group.{group_size, of_size}
use Rattle.clusters.proofs.Group.{size_8}
use Rattle.pusc_dl.proofs.group_address.Goals as goal

pub address_by-requires : goal.address_by-requires
unfolding of_size
address_by-requires c =
    let is : group_size c.args.g ≡ 12 = sym c.group_size.ensures.0 ∙ c.if-group_size-eq12.true in
    (omega arith, (omega arith, omega arith, omega arith, refl))

pub address_by-requires-else-group_size-eq12 : goal.address_by-requires-else-group_size-eq12
unfolding of_size
address_by-requires-else-group_size-eq12 c =
    let is = size_8 _ _ c.group_size.ensures.0 c.if-group_size-eq12.false in
    (omega arith, (omega arith, omega arith, omega arith, refl))

pub returns-else-group_size-eq12 : goal.returns-else-group_size-eq12
returns-else-group_size-eq12 c = rw (size_8 _ _ c.group_size.ensures.0 c.if-group_size-eq12.false) c.address_by-else-group_size-eq12.ensures
