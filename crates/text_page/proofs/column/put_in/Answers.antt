-- `text_page::column::put_in` meets its contract.
use mathlib.Core.Path.{ap, ◌∙◌}
use lib.Seq.{sets}
use Rattle.text_page.specs.Columns.{in_column}
use Rattle.text_page.proofs.column.put_in.Goals as goal

pub returns : goal.returns
unfolding in_column
returns c =
    c.put_text.ensures.bytes
    ∙ ap (λ i. sets c.args.line.now i c.args.text.now) c.place_in.ensures.0
