-- `machine_state::search::has_sync` meets its contract.
use mathlib.Core.Path.{◌≡◌}
use lib.ListN.{drop}
use Rattle.machine_spec.specs.Entries.{any_sync}
use Rattle.machine_lane.specs.Lanes.{flags}
use Rattle.machine_state.specs.States.{lane_of}
use Rattle.machine_state.proofs.search.has_sync.Given as goal

abbrev pub invariant-loop-i : goal.invariant-loop-i
invariant-loop-i l = any_sync (flags l.volatile) (drop l.i (lane_of l.state l.t).pending)
    ≡ any_sync (flags l.volatile) (lane_of l.state l.t).pending
