-- The text of what reading a plan answers.
use Rattle.base.proofs.Prelude.{◌≡◌, ap, ◌∙◌, List, ℕ, ◌+◌, ◌≤◌, arith, length, drop}
use lib.ListN.{length-append}
use Rattle.text.specs.Text.{put, Put}

-- a text put at the start ends within a buffer that kept its length
pub end_within : {d text after : List ℕ} {end : ℕ} → Put d 0 text end after → length after ≡ length d → end ≤ length d
unfolding put
end_within {d} {text} p e = omega (arith, e, p.next_is, ap length p.after_is ∙ length-append text (drop (0 + length text) d))
