-- `text_page::line::put_line` meets its contract.
use Rattle.sheet_format.proofs.Laws.Put.{puts_on}
use Rattle.text_page.proofs.line.put_line.Goals as goal

pub returns : goal.returns
returns c =
    puts_on c.put_text-end.ensures c.put.ensures
