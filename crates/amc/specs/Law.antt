-- What is claimed of AMC: the rule of its sequence, and that a slot is wholly parted into its subchannels, over the two numbers of the slot's shape. Its proof is `amc_law`.
use Rattle.std.specs.Prelude.{◌≡◌, ℕ, ◌+◌, ◌*◌, ◌<◌}
use Rattle.base.specs.Tabulate.{tabulate}
use Rattle.amc.specs.declared.Shape.{Shape}
use Rattle.amc.specs.Table.{sequence_digits}
use Rattle.amc.specs.Element.{sequence}
use Rattle.amc.specs.Map.{data_number, address_of}

-- one and only one subchannel and index of the slot is on a data number of a symbol of the slot, and the reverse gives it
pub record OnePoint (shape : Shape) (n cell offset number : ℕ) : Type 0 where
  pub subchannel : ℕ
  pub index : ℕ
  pub subchannel_lt : subchannel < n * shape.symbols
  pub index_lt : index < 48
  pub is_placed : data_number shape cell subchannel index ≡ record { offset = offset; number = number }
  pub no_other : (s m : ℕ) → s < n * shape.symbols → m < 48 → data_number shape cell s m ≡ record { offset = offset; number = number } → (s ≡ subchannel) × (m ≡ index)
  pub is_found : address_of shape cell offset number ≡ record { subchannel = subchannel; index = index }

-- A slot of a shape, N being n: N subchannels for each of its symbols have 48 points each, and each symbol has 6N bins of eight data numbers.
pub record Partition (shape : Shape) (n cell : ℕ) : Type 0 where
  -- Each point is on a data number of a symbol of the slot, and the reverse finds it there.
  pub offset_lt : (s m : ℕ) → s < n * shape.symbols → m < 48 → (data_number shape cell s m).offset < shape.symbols
  pub number_lt : (s m : ℕ) → s < n * shape.symbols → m < 48 → (data_number shape cell s m).number < 48 * n
  pub back : (s m : ℕ) → s < n * shape.symbols → m < 48
      → address_of shape cell (data_number shape cell s m).offset (data_number shape cell s m).number ≡ record { subchannel = s; index = m }
  -- Each data number of each symbol of the slot has just one point.
  pub one_point : (offset number : ℕ) → offset < shape.symbols → number < 48 * n → OnePoint shape n cell offset number

pub record AmcLaw : Type 0 where
  -- Document 01, "Adjacent mode": the 48-entry sequence P is document 004's, the powers of 22.
  pub powers : sequence_digits ≡ tabulate 48 (λ i. (sequence i).high * 16 + (sequence i).low)
  -- Document 02, wish 2: being a whole partition of the slot is shown over the shape's two numbers, once.
  pub partition : (shape : Shape) → shape.bins * shape.symbols ≡ 6 → (n cell : ℕ) → cell < 2352 → Partition shape n cell
