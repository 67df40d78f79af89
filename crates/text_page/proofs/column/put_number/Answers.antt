-- `text_page::column::put_number` meets its contract: the number's digits are laid into a buffer of their own first.
use mathlib.Core.Path.{ap, ◌∙◌}
use native.Mathlib.Omega.{arith}
use lib.ListN.{length}
use Rattle.sheet_format.proofs.Laws.Put.{puts_taken}
use Rattle.text_put.proofs.Laws.Decimal.{decimal_few}
use Rattle.text_page.specs.Columns.{in_column}
use Rattle.text_page.proofs.column.put_number.Goals as goal

pub slice_bounds-digits-end : goal.slice_bounds-digits-end
slice_bounds-digits-end c =
    omega (arith, c.put_decimal-size.ensures.behind, decimal_few c.args.n (omega arith))

pub slice_bounds-put_in-end : goal.slice_bounds-put_in-end
slice_bounds-put_in-end c =
    let few = decimal_few c.args.n (omega arith) in
    omega (arith, c.put_decimal-size.ensures.behind, ap length (puts_taken few c.put_decimal-size.ensures))

pub returns : goal.returns
returns c =
    c.put_in.ensures
    ∙ ap (in_column c.args.line.now c.args.column)
    (puts_taken (decimal_few c.args.n (omega arith)) c.put_decimal-size.ensures)
