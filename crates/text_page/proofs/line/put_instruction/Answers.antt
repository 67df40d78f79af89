-- `text_page::line::put_instruction` meets its contract.
use mathlib.Core.Path.{ap, ◌∙◌}
use mathlib.Core.List.{[], ◌∷◌, ◌++◌}
use lib.ListN.{drop}
use Rattle.sheet_format.specs.Read.{instr_by}
use Rattle.sheet_format.proofs.Laws.Put.{puts_as}
use Rattle.text_put.specs.Decimal.{decimal}
use Rattle.text_put.specs.Words.{newline}
use Rattle.text_listing.specs.Line.{instr_name}
use Rattle.text_listing.proofs.Laws.Line.{instr_same}
use Rattle.text_page.specs.declared.column.Side.TheVariants.{Left, Right}
use Rattle.text_page.specs.Columns.{column, blank_line, in_column, in_columns, line_in}
use Rattle.text_page.specs.Lines.{columns, field_texts, instruction_line}
use Rattle.text_page.proofs.line.put_instruction.Goals as goal

pub returns : goal.returns
unfolding instruction_line line_in in_columns blank_line
returns c =
    let i = instr_by c.from-code.result c.from-a.result c.from-b.result c.args.row.word in
    let same =
    instr_same c.args.row.word c.from-code.ensures c.from-a.ensures c.from-b.ensures in
    puts_as
    (ap (λ x. x ++ newline ∷ [])
    (c.fields_in.ensures
    ∙ ap (λ x. in_columns x (drop 3 columns) (field_texts i c.args.rec))
    (c.name_in.ensures c.from-a.result c.from-b.result c.args.row.word
    ∙ ap (λ x. in_column x (column 7 6 Left) (instr_name i))
    (c.put_number-2.ensures
    ∙ ap (λ x. in_column x (column 3 3 Right) (decimal c.args.position)) c.put_number.ensures)))
    ∙ ap (λ j. instruction_line c.args.lane c.args.position j c.args.rec) same)
    c.put_line.ensures
