-- `text_page::line::put_row` meets its contract.
use Prim.Native.Nat.{◌+◌, ◌/◌}
use mathlib.Core.Path.{sym}
use native.Mathlib.Omega.{arith}
use Rattle.sheet_format.proofs.Laws.Put.{puts_as, puts_on}
use Rattle.text_page.proofs.Laws.Columns.{heading_length}
use Rattle.text_page.proofs.Laws.Pages.{headed_first, headed_inside}
use Rattle.text_page.proofs.line.put_row.Goals as goal

pub put_instruction-requires : goal.put_instruction-requires
put_instruction-requires c =
    omega (arith, c.requires.0, c.put_heading-from.ensures.behind, heading_length (c.args.i / 55 + 1))

pub returns-then-i-eq0 : goal.returns-then-i-eq0
returns-then-i-eq0 c =
    puts_as (sym (headed_first _ _ c.if-i-eq0.true)) (puts_on c.put_heading-from.ensures c.put_instruction.ensures)

pub returns : goal.returns
returns c =
    puts_as (sym (headed_inside _ _ c.if-i-eq0.false)) c.put_instruction-2.ensures
