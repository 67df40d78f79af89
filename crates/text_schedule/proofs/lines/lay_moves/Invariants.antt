-- `text_schedule::lines::lay_moves` meets its contract. What is left from i on, laid behind what is there, makes the
-- whole.
use Rattle.text_schedule.proofs.Laws.Lines.{Finishes}
use Rattle.text_schedule.proofs.lines.lay_moves.Given as goal

abbrev pub invariant-loop-b : goal.invariant-loop-b
invariant-loop-b l = Finishes l.text l.initial.out l.p l.b-index l.out l.at
