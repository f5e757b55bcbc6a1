-- `ofusc_rows::bin_points` meets its contract.
use Rattle.base.proofs.{Prelude.{◌+◌, ◌*◌}, Tabulate.{Written}}
use Rattle.carriers.specs.Model.{address_number}
use Rattle.ofusc.specs.Map.{address_of}
use Rattle.ofusc_rows.proofs.bin_points.Given as goal

abbrev pub invariant-loop-j : goal.invariant-loop-j
invariant-loop-j l = Written 12 (λ m. address_number (address_of l.fn.width.n l.cell (l.i * 8 + m))) l.points l.j
