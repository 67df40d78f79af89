-- `lanerun::tell::run_and_tell` meets its contract: lines are told only of a run that is not refused.
use lib.ListN.{replicate}
use Rattle.text_run.proofs.Laws.Ends.{told_ran}
use Rattle.lanerun.proofs.tell.run_and_tell.Goals as goal

pub tell_moves-requires : goal.tell_moves-requires
tell_moves-requires g c = record {
  few = c.requires;
  runs = told_ran c.args.machine c.args.file.now c.args.moves.now (replicate 65536 0) c.in-Ok.ensures;
}
