-- `text_listing::refusal::put_refusal` meets its contract.
use Rattle.text_listing.specs.Line.{refusal_line}
use Rattle.sheet_format.proofs.Laws.Put.{puts_on}
use Rattle.text_listing.proofs.refusal.put_refusal.Goals as goal

pub returns : goal.returns
unfolding refusal_line
returns c =
    puts_on (puts_on c.put_one-i.ensures.1 c.put_one-j.ensures.1)
    c.put.ensures
