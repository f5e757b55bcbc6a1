-- `pusc_dl_points::cluster_points` meets its contract.
use Rattle.base.proofs.Prelude.{arith}
use Rattle.pusc_dl_points.proofs.Points.{from_12, from_8, first_small, place_even_lt, place_odd_lt, numbers_12, numbers_8}
use Rattle.pusc_dl_points.proofs.cluster_points.Goals as goal

pub group_numbers-requires : goal.group_numbers-requires
group_numbers-requires c =
    let o = c.requires.offset_bound in
    let noted = c.requires.starts.0 _ o.1 in
    let first = first_small _ _ c.args.offset _ o.0 o.1 _ noted in
    (omega (arith, o.0), place_even_lt _ _ c.args.offset _ o.0 o.1 _ noted, omega arith, omega arith, from_12 _ _ c.requires.starts.1)

pub group_numbers-requires-else-entry-eq0 : goal.group_numbers-requires-else-entry-eq0
group_numbers-requires-else-entry-eq0 c =
    let o = c.requires.offset_bound in
    let noted = c.requires.starts.0 _ o.1 in
    let first = first_small _ _ c.args.offset _ o.0 o.1 _ noted in
    (omega (arith, o.0), place_odd_lt _ _ c.args.offset _ o.0 o.1 _ noted c.if-entry-eq0.false, omega arith, omega arith, from_8 _ _ c.requires.starts.1)

pub returns-then-entry-eq0 : goal.returns-then-entry-eq0
returns-then-entry-eq0 c =
    let o = c.requires.offset_bound in
    numbers_12 _ _ _ _ o.0 o.1 _ (c.requires.starts.0 _ o.1) c.if-entry-eq0.true c.group_numbers.result c.group_numbers.ensures

pub returns-else-entry-eq0 : goal.returns-else-entry-eq0
returns-else-entry-eq0 c =
    let o = c.requires.offset_bound in
    numbers_8 _ _ _ _ o.0 o.1 _ (c.requires.starts.0 _ o.1) c.if-entry-eq0.false c.group_numbers-else-entry-eq0.result c.group_numbers-else-entry-eq0.ensures
