-- `text_listing::whole::put_sheet` meets its contract.
use Rattle.text_listing.specs.Listing.{sheet_text}
use Rattle.sheet_format.proofs.Laws.Put.{puts_on}
use Rattle.text_listing.proofs.whole.put_sheet.Goals as goal

pub returns : goal.returns
unfolding sheet_text
returns c =
    puts_on c.put_first-i.ensures.1 c.put_lanes.ensures.puts
