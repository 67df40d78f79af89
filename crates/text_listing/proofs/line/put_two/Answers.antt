-- `text_listing::line::put_two` meets its contract.
use Rattle.sheet_format.proofs.Laws.Put.{puts_on}
use Rattle.text_listing.proofs.line.put_two.Goals as goal

pub returns : goal.returns
returns c =
    puts_on c.put_text-i.ensures c.put_pair.ensures
