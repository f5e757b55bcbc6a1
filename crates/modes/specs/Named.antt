-- The modes by name, as the code has them. No reader needs this to know what the calls do.
use Rattle.std.specs.Prelude.{ℕ, Result, Ok, Err}
use Rattle.refusal.specs.declared.Refusal.{Refusal}
use Rattle.refusal.specs.declared.Refusal.TheVariants as no
use Rattle.modes.specs.declared.Mode.{Mode}
use Rattle.modes.specs.declared.Mode.TheVariants.{PuscDl, PuscUl, Ofusc, Amc, Fusc}
use Rattle.modes.specs.Mode.{by_mode, shape_of}

-- the mode of a number, or the refusal of question 1
unfoldable pub named : (number : ℕ) → Result Mode Refusal
named number = by_mode number (Ok PuscDl) (Ok PuscUl) (Ok Ofusc) (Ok (Amc (shape_of number))) (Ok Fusc) (Err no.Mode)
