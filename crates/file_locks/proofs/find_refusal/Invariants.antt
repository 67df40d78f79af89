-- `file_locks::find_refusal` meets its contract. The first fault from lane t on is the first of all, and the first
-- descent is the one found, or else the first from lane t on.
use Prim.Native.Nat.{◌-◌}
use mathlib.Core.Path.{◌≡◌}
use Rattle.file_format.specs.Accepted.{program_of}
use Rattle.file_format.specs.Held.{lock_fault}
use Rattle.file_format.specs.Rising.{lock_order}
use Rattle.file_format.specs.Search.{first_of}
use Rattle.file_chains.specs.Ordered.{begin_of}
use Rattle.file_locks.proofs.Laws.Descents.{Ahead}
use Rattle.file_locks.proofs.Laws.Order.{fault, descent}
use Rattle.file_locks.proofs.find_refusal.Given as goal

abbrev pub invariant-loop-end : goal.invariant-loop-end
invariant-loop-end l = (l.from ≡ begin_of l.ends l.end-index)
    × (first_of (fault l.s) l.end-index (4 - l.end-index) ≡ lock_fault (program_of l.s))
    × Ahead l.descent (first_of (descent l.s) l.end-index (4 - l.end-index)) (lock_order (program_of l.s))
