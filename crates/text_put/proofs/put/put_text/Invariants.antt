-- `text_put::put::put_text` meets its contract. What is written so far is the text as far as i.
use Prim.Native.Nat.{◌+◌}
use mathlib.Core.Path.{◌≡◌}
use lib.ListN.{length, take}
use Rattle.sheet_format.specs.Put.{Puts}
use Rattle.text_put.proofs.put.put_text.Given as goal

abbrev pub invariant-loop-i : goal.invariant-loop-i
invariant-loop-i l = (length l.out ≡ length l.initial.out)
    × Puts l.initial.out l.at (take l.i l.text) l.out (l.at + l.i)
