-- `text_page::line::pair_in` meets its contract.
use mathlib.Core.Path.{ap, ◌∙◌}
use mathlib.Core.List.{[], ◌∷◌}
use Rattle.text_put.specs.Decimal.{decimal}
use Rattle.text_page.specs.declared.column.Side.TheVariants.{Right}
use Rattle.text_page.specs.Columns.{column, in_columns}
use Rattle.text_page.proofs.line.pair_in.Goals as goal

pub returns : goal.returns
unfolding in_columns
returns c =
    c.number_in.ensures
    ∙ ap (λ l. in_columns l (c.args.second ∷ column 30 3 Right ∷ []) (decimal c.args.n ∷ decimal c.args.rec ∷ []))
    c.put_number.ensures
