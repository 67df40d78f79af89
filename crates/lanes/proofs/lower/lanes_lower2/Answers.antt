-- `lanes::lower::lanes_lower2` meets its contract: every answer fits.
use borrow.Author.Rules.{rules}
use Rattle.lanes.proofs.Calls.{answer_fits}
use Rattle.lanes.proofs.lower.lanes_lower2.Goals as goal

pub packed-requires : goal.packed-requires
packed-requires c = search (rules, answer_fits)
