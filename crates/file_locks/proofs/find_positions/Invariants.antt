-- `file_locks::find_positions` meets its contract. The lowest fault from p on is the lowest of all, and the first
-- descent is the one found, or else the lowest from p on.
use lib.ListN.{length}
use mathlib.Core.List.{List}
use mathlib.Core.Path.{◌≡◌}
use Rattle.file_format.specs.declared.accepted.Op.{Op}
use Rattle.file_locks.specs.Lanes.{LaneIn}
use Rattle.file_locks.proofs.Laws.Descents.{Sought}
use Rattle.file_locks.proofs.Laws.Pass.{Passed}
use Rattle.file_locks.proofs.find_positions.Given as goal

abbrev pub invariant-loop-p : goal.invariant-loop-p
invariant-loop-p l = (length l.led ≡ 65)
    × ((ops : List Op) → LaneIn l.rows l.n ops → Passed ops l.n l.p l.w l.led × Sought ops l.n l.p l.descent)
