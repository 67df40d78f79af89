-- `file_chains::link::walk` meets its contract. At each record the rest of the walk is the whole walk.
use Prim.Native.Nat.{◌-◌}
use Rattle.file_chains.proofs.Laws.Walks.{Walking}
use Rattle.file_chains.proofs.link.walk.Given as goal

abbrev pub invariant-loop-r : goal.invariant-loop-r
invariant-loop-r l = Walking l.s l.h l.k l.initial.order l.initial.place l.order l.place l.r l.n

abbrev pub decreases-loop-r : goal.decreases-loop-r
decreases-loop-r l = 257 - l.n
