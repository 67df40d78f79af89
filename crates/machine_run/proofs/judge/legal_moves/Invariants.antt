-- `machine_run::judge::legal_moves` meets its contract. The test so far, with that of the moves left, is that of all.
use Prim.Native.Nat.{◌*◌, ◌/◌}
use mathlib.Core.Path.{◌≡◌}
use mathlib.Core.Bool.{◌&&◌}
use lib.ListN.{length, drop}
use Rattle.machine_spec.specs.Schedule.{legal}
use Rattle.machine_spec.specs.Moves.{moves_in}
use Rattle.machine_run.proofs.judge.legal_moves.Given as goal

abbrev pub invariant-loop-k : goal.invariant-loop-k
invariant-loop-k l = (l.pairs ≡ length l.moves / 2)
    × ((l.legal && legal l.n l.limit (moves_in (drop (2 * l.k) l.moves))) ≡ legal l.n l.limit (moves_in l.moves))
