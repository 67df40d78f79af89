-- `text_page::lines::place_of` meets its contract: position is what i leaves behind the rows of the lanes before.
use Prim.Native.Nat.{ℕ, ◌+◌, ◌*◌, ◌≤◌}
use mathlib.Core.Path.{◌≡◌}
use mathlib.Core.List.{List}
use lib.ListN.{get_or}
use Rattle.sheet_rows.specs.Rows.{parts_in}
use Rattle.text_page.proofs.lines.place_of.Given as goal

abbrev pub invariant-loop-lane : goal.invariant-loop-lane
invariant-loop-lane l = (l.position ≤ l.i) × ((sheet : List ℕ) → l.parts ≡ parts_in sheet
    → get_or (parts_in sheet).from l.lane 0 + 8 * l.position ≡ 16 + 8 * l.i)
