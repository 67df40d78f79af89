-- `lanes::page::lanes_page` meets its contract: every answer fits.
use borrow.Author.Rules.{rules}
use Rattle.lanes.proofs.Calls.{answer_fits}
use Rattle.lanes.proofs.page.lanes_page.Goals as goal

pub packed-requires : goal.packed-requires
packed-requires c = search (rules, answer_fits)
