-- `text_page::line::put_heading` meets its contract.
use mathlib.Core.Path.{ap, ◌∙◌}
use mathlib.Core.List.{[], ◌∷◌, ◌++◌}
use Rattle.sheet_format.proofs.Laws.Put.{puts_as}
use Rattle.text_put.specs.Decimal.{decimal}
use Rattle.text_put.specs.Words.{newline}
use Rattle.text_page.specs.declared.column.Side.TheVariants.{Right}
use Rattle.text_page.specs.Columns.{column, blank_line, in_column, in_columns, line_in}
use Rattle.text_page.specs.Pages.{heading_line}
use Rattle.text_page.proofs.line.put_heading.Goals as goal

pub returns : goal.returns
unfolding heading_line line_in in_columns blank_line
returns c =
    puts_as
    (ap (λ x. x ++ newline ∷ [])
    (c.put_number.ensures
    ∙ ap (λ x. in_column x (column 30 3 Right) (decimal c.args.n)) c.put_in.ensures))
    c.put_line.ensures
