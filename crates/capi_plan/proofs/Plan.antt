-- What plans come to at the C boundary, and that a written plan's length fits there.
use Rattle.std.specs.Prelude.{Ok}
use Rattle.base.proofs.Prelude.{◌≡◌, sym, List, ℕ, ◌≤◌}
use Rattle.plan.specs.declared.Plan.{Plan}
use Rattle.plan_write.specs.Write.{write_of, written}
use Rattle.plan_write.proofs.Round.{written_51}

pub few_bytes : (p : Plan) (d after : List ℕ) (n : ℕ) → written (Ok n) after ≡ write_of p d → n ≤ 51
few_bytes p d after n e = written_51 p d after n (sym e)
