-- `machine_moves::moves::run_moves`: x and the state are what the moves so far made of what they were.
use Rattle.std.proofs.Common.{take}
use Rattle.machine_moves.proofs.Laws.Schedules.{Made}
use Rattle.machine_moves.proofs.moves.run_moves.Given as goal

abbrev pub invariant-loop-m : goal.invariant-loop-m
invariant-loop-m l = Made l.rows (take l.m-index l.ms) l.initial.x l.initial.state l.x l.state
