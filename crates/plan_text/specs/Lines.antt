-- The text that the program `zones` prints. Document 01, "Zone plan": one line a zone, "mode cell slots" in base ten, or "refused N"; document 02, wish 5: the mask last in a line. Every line ends with a line feed.
use Rattle.std.specs.Prelude.{List, [], ◌∷◌, ◌++◌, ℕ, Result, Ok, Err}
use Rattle.refusal.specs.declared.Refusal.{Refusal}
use Rattle.refusal.specs.Refusal.{number_of}
use Rattle.text.specs.Text.{decimal}
use Rattle.zone.specs.declared.Zone.{Zone}
use Rattle.plan.specs.declared.Plan.{Plan}
use Rattle.plan.specs.Plan.{used_zones, each}

-- The space and the line feed are ASCII's.
abbrev pub space : ℕ
space = 32

abbrev pub line_feed : ℕ
line_feed = 10

-- A number in base ten and one byte behind it.
abbrev pub field : (number mark : ℕ) → List ℕ
field number mark = decimal number ++ (mark ∷ [])

-- The line of a zone has its mode, cell, slots and mask.
unfoldable pub line_of : (zone : Zone) → List ℕ
line_of zone = field zone.mode space ++ (field zone.cell space ++ (field zone.slots space ++ field zone.mask line_feed))

abbrev pub lines_of : (zones : List Zone) → List ℕ
lines_of zones = each line_of zones

-- The word of a refusal, "refused ", in ASCII.
abbrev pub refused_word : List ℕ
refused_word = 114 ∷ 101 ∷ 102 ∷ 117 ∷ 115 ∷ 101 ∷ 100 ∷ space ∷ []

unfoldable pub refusal_line : (number : ℕ) → List ℕ
refusal_line number = refused_word ++ field number line_feed

-- The text of an answer of `read`: a line for each zone, or the refusal's line.
unfoldable pub text_of : (answer : Result Plan Refusal) → List ℕ
text_of (Ok plan) = lines_of (used_zones plan)
text_of (Err refusal) = refusal_line (number_of refusal)
