-- `text_kernel::print_pages` meets its contract.
use mathlib.Core.Path.{sym, ap, ◌∙◌}
use native.Mathlib.Omega.{arith}
use Rattle.std.specs.Prelude.{Err}
use Rattle.sheet_format.proofs.Answers.{answer_small}
use Rattle.text_page.specs.Pages.{page_text}
use Rattle.text_kernel.proofs.Laws.Printed.{short_printed}
use Rattle.text_kernel.proofs.print_pages.Goals as goal

pub returns-in-Err-ShortBuffer : goal.returns-in-Err-ShortBuffer
returns-in-Err-ShortBuffer c =
    short_printed page_text c.args.file.now c.args.out.now
    (ap (λ r. (Err r, c.write_page.new.out)) (sym c.in-Err-ShortBuffer.field-0-is) ∙ c.in-Err-ShortBuffer.ensures)

-- the number and the record of a refusal are small
pub list_refused-requires : goal.list_refused-requires
list_refused-requires c =
    let small = answer_small page_text c.args.file.now c.args.out.now c.in-Err.ensures in
    (omega (arith, small), omega (arith, small))
