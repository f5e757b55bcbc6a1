-- What a zone fixes and what a caller lends with it, as one record: all definitions and laws are over this one.
use Rattle.std.specs.Prelude.{List, [], ℕ}
use Rattle.modes.specs.declared.Setup as code

-- Document 01, "Grids": mode, size and cell. Document 02, wish 8: a symbol's pilots, lent as rising used numbers, in FUSC. In every other mode nothing is lent: question 20 asks it.
pub record Setup : Type 0 where
  pub mode : ℕ
  pub size : ℕ
  pub cell : ℕ
  pub pilots : List ℕ

abbrev pub setup_lent : (mode size cell : ℕ) (pilots : List ℕ) → Setup
setup_lent mode size cell pilots = record { mode = mode; size = size; cell = cell; pilots = pilots }

-- with nothing lent
abbrev pub setup_with : (mode size cell : ℕ) → Setup
setup_with mode size cell = setup_lent mode size cell []

-- a setup of the code, which holds no list, with a list that is lent beside it
abbrev pub lent : (setup : code.Setup) (pilots : List ℕ) → Setup
lent setup pilots = setup_lent setup.mode setup.size setup.cell pilots

-- a setup of the code with nothing lent
abbrev pub alone : (setup : code.Setup) → Setup
alone setup = setup_with setup.mode setup.size setup.cell
