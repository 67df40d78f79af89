-- `file_chains::link::link` meets its contract. At each lane the rest of the walk gives the whole answer.
use lib.ListN.{length}
use mathlib.Core.Path.{◌≡◌}
use Rattle.file_chains.proofs.Laws.Lanes.{Linking}
use Rattle.file_chains.proofs.link.link.Given as goal

abbrev pub invariant-loop-t : goal.invariant-loop-t
invariant-loop-t l = Linking l.s l.order l.place l.ends l.k l.t × (length l.order ≡ length l.initial.order)
    × (length l.place ≡ length l.initial.place)
