-- `text::put_bytes` meets its contract.
use mathlib.Core.{Path.{◌≡◌, refl}, List.{List, append_assoc}}
use native.Mathlib.Omega.{arith}
use lib.{ListN.length, Seq.drop-drop}
use borrow.Rule.Slice.PartMut.{put_mid}
use Prim.Native.Nat.{ℕ}
use Rattle.text.specs.Text.{put}
use Rattle.text.proofs.put_bytes.Goals as goal

-- a part that was copied is a text put at its place
copied : (dest text : List ℕ) (at n : ℕ) → n ≡ length text → put_mid at n dest text ≡ put dest at text
unfolding put
copied dest text at n e = rw e (simp (append_assoc, drop-drop))

pub returns : goal.returns
returns c = record { next_is = refl; after_is = rw c.copy_from_slice.ensures.after (copied c.args.dest.now c.args.bytes.now c.args.at _ (omega arith)) }
