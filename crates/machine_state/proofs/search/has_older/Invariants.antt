-- `machine_state::search::has_older` meets its contract.
use Prim.Native.Nat.{ℕ}
use mathlib.Core.Path.{◌≡◌}
use lib.ListN.{take, drop}
use Rattle.machine_spec.specs.Entries.{any_same}
use Rattle.machine_lane.specs.Lanes.{entry_of}
use Rattle.machine_state.specs.States.{lane_of}
use Rattle.machine_state.proofs.search.has_older.Given as goal

abbrev pub invariant-loop-i : goal.invariant-loop-i
invariant-loop-i l =
    (v : ℕ) → any_same (entry_of l.cell v) (drop l.i (take l.n (lane_of l.state l.t).pending))
    ≡ any_same (entry_of l.cell v) (take l.n (lane_of l.state l.t).pending)
