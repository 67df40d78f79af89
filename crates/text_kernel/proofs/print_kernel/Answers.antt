-- `text_kernel::print_kernel` meets its contract.
use mathlib.Core.Path.{ap, ◌∙◌}
use native.Mathlib.Omega.{arith}
use Rattle.sheet_format.specs.declared.Level.TheVariants.{Level2}
use Rattle.sheet_format.specs.Bytes.{sheet_bytes, write_into}
use Rattle.sheet_format.proofs.Answers.{answer_small}
use Rattle.text_listing.specs.Listing.{sheet_text}
use Rattle.text_kernel.proofs.Laws.Printed.{refusal_printed, sheet_printed}
use Rattle.text_kernel.proofs.print_kernel.Goals as goal

pub list_refused-requires : goal.list_refused-requires
list_refused-requires c =
    let small = answer_small (sheet_bytes Level2) c.args.file.now _ c.in-Err.ensures in
    (omega (arith, small), omega (arith, small))

pub returns-in-Err : goal.returns-in-Err
returns-in-Err c =
    c.list_refused.ensures
    ∙ ap (λ t. write_into t c.args.out.now)
    (refusal_printed c.args.file.now _ (omega arith) c.in-Err.ensures)

pub returns-in-Ok : goal.returns-in-Ok
returns-in-Ok c =
    c.list_sheet.ensures
    ∙ ap (λ m. write_into (sheet_text c.lower2.new.out m) c.args.out.now) c.word_at.ensures.0
    ∙ ap (λ t. write_into t c.args.out.now) (sheet_printed c.args.file.now _ (omega arith) c.in-Ok.ensures)
