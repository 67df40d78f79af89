-- `text_page::line::number_in` meets its contract.
use mathlib.Core.Path.{ap, ◌∙◌}
use Rattle.text_put.specs.Decimal.{decimal}
use Rattle.text_page.specs.declared.column.Side.TheVariants.{Right}
use Rattle.text_page.specs.Columns.{column, in_column, in_columns}
use Rattle.text_page.proofs.line.number_in.Goals as goal

pub returns : goal.returns
unfolding in_columns
returns c =
    c.put_number-2.ensures
    ∙ ap (λ l. in_column l (column 30 3 Right) (decimal c.args.rec)) c.put_number.ensures
