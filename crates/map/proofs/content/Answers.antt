-- `map::content` meets its contract.
use Rattle.base.proofs.Prelude.{arith, rules}
use Rattle.map.proofs.Outcome.{content_left, content_used, no_pilot, content_guard, content_dc, content_pilot, content_point}
use Rattle.modes.proofs.{ByMode.ranged_alone, Whole.band_law}
use Rattle.map.proofs.content.Goals as goal

pub is_guard-requires : goal.is_guard-requires
is_guard-requires c = rw c.band-b.ensures (omega (arith, band_law c.requires.valid.ranged))

pub returns-then-is_guard : goal.returns-then-is_guard
returns-then-is_guard c = search (content_guard, rules)

pub returns-then-is_dc : goal.returns-then-is_dc
returns-then-is_dc c = search (content_dc, rules)

pub used-used-requires : goal.used-used-requires
used-used-requires c =
    let d = c.before in
    let g = d.before.before in
    let b = g in
    content_left _ 0 _ _ b.band-b.ensures b.requires.valid _ g.is_guard.ensures d.if-is_guard.false _ d.is_dc.ensures c.if-is_dc.false

pub returns-then-is_pilot : goal.returns-then-is_pilot
returns-then-is_pilot c = search (content_pilot, rules)

-- the column's used number is one of the band's
pub is_pilot-requires : goal.is_pilot-requires
is_pilot-requires c =
    let d = c.before.before in
    let g = d.before.before in
    let b = g in
    let v = b.requires.valid in
    record { valid = v; used_bound = content_used _ 0 _ _ b.band-b.ensures v _ g.is_guard.ensures d.if-is_guard.false _ d.is_dc.ensures c.if-is_dc.false _ c.used-used.ensures }

pub address-a-requires : goal.address-a-requires
address-a-requires c =
    let v = c.requires.valid in
    record {
      valid = v;
      used_bound = content_used _ 0 _ _ c.band-b.ensures v _ c.is_guard.ensures c.if-is_guard.false _ c.is_dc.ensures c.if-is_dc.false _ c.used-used.ensures;
      used_value = no_pilot _ _ _ _ c.is_pilot.ensures c.if-is_pilot.false;
    }

pub returns : goal.returns
returns c = search (content_point, rules)

pub band-b-requires : goal.band-b-requires
band-b-requires c = search (ranged_alone, rules)

pub slot_of-requires : goal.slot_of-requires
slot_of-requires c = search (ranged_alone, rules)
