-- `machine_run::run::run_bytes` meets its contract.
use Prim.Native.Nat.{ℕ, ◌*◌, ◌-◌, ◌^◌, ◌≤◌, ◌<◌}
use mathlib.Core.List.{List}
use lib.ListN.{get_or, take}
use Rattle.sheet_format.specs.Layout.{Instr}
use Rattle.machine_lane.specs.Lanes.{flags}
use Rattle.machine_spec.specs.Moves.{moves_in}
use Rattle.machine_run.specs.Runs.{RunnableBy, Ran, Ends}
use Rattle.machine_state.specs.States.{Sized}
use Rattle.machine_run.proofs.run.run_bytes.Given as goal

abbrev pub invariant-loop-k : goal.invariant-loop-k
invariant-loop-k l = Sized l.state × (l.done ≤ l.k) × (l.n < 2 ^ 63)
    × ((i : ℕ) → i < l.n → get_or l.moves (2 * i) 0 < 4)
    × ((prog : List (List Instr)) → RunnableBy l.machine (flags l.volatile) l.sheet l.first l.count (moves_in l.moves)
    l.initial.state prog
    → Ends l.machine (flags l.volatile) (take l.k (moves_in l.moves)) prog l.initial.state (Ran l.done (l.k - l.done))
    l.state)
