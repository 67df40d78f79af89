-- `lanerun::tell::tell_moves` meets its contract: what is told for n is move n of the schedule, on what the moves
-- before it came to.
use Rattle.machine_spec.specs.Moves.{moves_in}
use Rattle.lanerun.proofs.Laws.Told.{CameTo}
use Rattle.lanerun.proofs.tell.tell_moves.Given as goal

abbrev pub invariant-loop-n : goal.invariant-loop-n
invariant-loop-n g l = CameTo l.machine l.file (moves_in l.moves) l.n l.rows l.x l.state l.before
