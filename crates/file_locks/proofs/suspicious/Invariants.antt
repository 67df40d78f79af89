-- `file_locks::suspicious` meets its contract. No fault and no descent lies before p.
use lib.ListN.{length}
use mathlib.Core.List.{List}
use mathlib.Core.Path.{◌≡◌}
use Rattle.std.specs.Prelude.{None}
use Rattle.file_format.specs.declared.accepted.Op.{Op}
use Rattle.file_locks.specs.Lanes.{LaneIn}
use Rattle.file_locks.proofs.Laws.Descents.{Sought}
use Rattle.file_locks.proofs.Laws.Pass.{Passed}
use Rattle.file_locks.proofs.suspicious.Given as goal

abbrev pub invariant-loop-p : goal.invariant-loop-p
invariant-loop-p l = (length l.led ≡ 65)
    × ((ops : List Op) → LaneIn l.rows l.n ops → Passed ops l.n l.p l.w l.led × Sought ops l.n l.p None)
