-- `machine_lane::lane::Lane::commit` meets its contract.
use mathlib.Core.Path.{◌≡◌}
use lib.ListN.{length}
use Rattle.machine_spec.specs.Entries.{without}
use Rattle.machine_lane.specs.Lanes.{entries_of}
use Rattle.machine_lane.proofs.lane.Lane.commit.Given as goal

abbrev pub invariant-loop-i : goal.invariant-loop-i
invariant-loop-i l = record {
  cells : length l.c ≡ 64;
  values : length l.v ≡ 64;
  moved : without l.i (entries_of l.c l.v) ≡ without l.index (entries_of l.fn.self.cells l.fn.self.values);
}
