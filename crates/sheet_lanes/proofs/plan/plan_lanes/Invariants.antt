-- `sheet_lanes::plan::plan_lanes` meets its contract. What is written is the plans of the lanes passed.
use Prim.Native.Nat.{◌*◌, ◌≤◌}
use mathlib.Core.Path.{◌≡◌}
use lib.ListN.{length}
use Rattle.sheet_lanes.specs.Rows.{plan_from, PlansTo}
use Rattle.sheet_lanes.proofs.plan.plan_lanes.Given as goal

abbrev pub invariant-loop-t : goal.invariant-loop-t
invariant-loop-t l = record {
  four : length l.ends ≡ 4;
  placed : l.place ≡ plan_from l.rows l.t;
  plans : PlansTo l.rows l.mask l.plan l.ends l.t;
  small : l.place ≤ 65 * l.t;
}
