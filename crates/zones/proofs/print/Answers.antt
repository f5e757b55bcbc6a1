-- `zones::print` is safe: the text ends within the buffer.
use mathlib.Core.Path.{sym}
use native.Mathlib.Omega.{arith}
use lib.Seq.{length-take-le}
use Rattle.plan_text.proofs.Listing.{end_within}
use Rattle.zones.proofs.print.Goals as goal

pub slice_bounds-out-end : goal.slice_bounds-out-end
slice_bounds-out-end g c =
    let lines = c.lines-end in
    omega (arith, lines.auto.dest, end_within lines.ensures lines.auto.dest)

pub slice_bounds-write_all-end : goal.slice_bounds-write_all-end
slice_bounds-write_all-end g c = sym (length-take-le _ _ (slice_bounds-out-end g c.before))
