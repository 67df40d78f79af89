-- `text_page::lines::put_lines` meets its contract. What is laid so far are the first i lines with their headings, and
-- the next record is that behind those of the operations before row i.
use Prim.Native.Nat.{◌*◌, ◌≤◌}
use mathlib.Core.Path.{◌≡◌}
use lib.ListN.{length, take, drop}
use Rattle.file_format.specs.Accepted.{Program}
use Rattle.sheet_format.specs.Layout.{rank}
use Rattle.sheet_format.specs.Put.{Puts}
use Rattle.sheet_format.specs.Read.{read_rows}
use Rattle.text_page.specs.Lines.{page_lines}
use Rattle.text_page.specs.Given.{paged, Given}
use Rattle.text_page.proofs.lines.put_lines.Given as goal

abbrev pub invariant-loop-i : goal.invariant-loop-i
invariant-loop-i l = (length l.out ≡ length l.initial.out) × (l.at ≤ 66 * l.i) × (l.next ≤ l.i)
    × (l.next ≡ rank (read_rows l.n (drop 16 l.sheet)) l.i)
    × ((k : Program) → Given k l.sheet l.order l.n
    → Puts l.initial.out 0 (paged 0 (take l.i (page_lines k))) l.out l.at)
