-- `machine_lane::flags::flags_of` meets its contract. The flags passed are those of the mask.
use Rattle.machine_lane.proofs.Laws.Flags.{Flagged}
use Rattle.machine_lane.proofs.flags.flags_of.Given as goal

abbrev pub invariant-loop-x : goal.invariant-loop-x
invariant-loop-x l = Flagged l.mask l.flag-items l.x
