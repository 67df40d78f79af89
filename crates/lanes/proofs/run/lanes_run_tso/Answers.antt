-- `lanes::run::lanes_run_tso` meets its contract: every answer fits.
use borrow.Author.Rules.{rules}
use Rattle.lanes.proofs.Calls.{run_fits}
use Rattle.lanes.proofs.run.lanes_run_tso.Goals as goal

pub packed-requires : goal.packed-requires
packed-requires c = search (rules, run_fits)
