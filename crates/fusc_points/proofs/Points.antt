-- The point of a data number, by its quotient and the entry of its remainder.
use Rattle.base.proofs.Prelude.{◌≡◌, ℕ, ◌+◌, ◌-◌, ◌*◌, ◌/◌, ◌%◌, ◌<◌, arith}
use Rattle.base.proofs.Tabulate.{written_none, written_next, written_starts}
use Rattle.base.specs.Steps.{unrotate}
use Rattle.fusc.specs.Map.{data_subchannel, data_index}
use Rattle.fusc.proofs.Tables.{sequence_perm}
use Rattle.fusc_points.specs.Model.{turned_inverse, point_of_data}

pub turned_lt : (cell x : ℕ) → turned_inverse cell x < 32
unfolding turned_inverse
turned_lt cell x = sequence_perm.from_lt (unrotate 32 cell x) (omega arith)

module _ (cell n x b s : ℕ) (hn : n < 48) (hx : x < 32) (eb : b ≡ turned_inverse cell x) (es : s ≡ (b + (64 - n)) % 32) where
  abbrev d : ℕ
  d = n * 32 + x

  subchannel_is : data_subchannel cell d ≡ s
  unfolding data_subchannel turned_inverse
  subchannel_is =
      let q : d / 32 ≡ n = omega arith in
      let r : d % 32 ≡ x = omega arith in
      rw (q, r, ← eb) (omega arith)

  index_is : data_index cell d ≡ (n + 35 * s) % 48
  unfolding data_index
  index_is = rw subchannel_is (omega arith)

  pub number_is : s * 48 + (n + 35 * s) % 48 ≡ point_of_data cell d
  number_is = rw (subchannel_is, index_is)

-- a loop that writes a row from its first entry on
pub ruleset written = (written_none, written_next, written_starts)
