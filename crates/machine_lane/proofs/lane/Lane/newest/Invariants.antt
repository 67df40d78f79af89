-- `machine_lane::lane::Lane::newest` meets its contract.
use mathlib.Core.Path.{◌≡◌}
use lib.ListN.{take}
use Rattle.machine_spec.specs.Entries.{newest}
use Rattle.machine_lane.specs.Lanes.{entries_of}
use Rattle.machine_lane.proofs.lane.Lane.newest.Given as goal

abbrev pub invariant-loop-i : goal.invariant-loop-i
invariant-loop-i l = newest l.cell l.otherwise (take l.i (entries_of l.self.cells l.self.values))
    ≡ newest l.cell l.otherwise (take l.self.len (entries_of l.self.cells l.self.values))
