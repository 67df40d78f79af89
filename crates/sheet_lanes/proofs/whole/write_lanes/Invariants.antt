-- `sheet_lanes::whole::write_lanes` meets its contract. What is written is the lanes passed, one behind the other.
use Prim.Native.Nat.{◌*◌, ◌≤◌}
use mathlib.Core.Path.{◌≡◌}
use Rattle.sheet_format.specs.Put.{Puts, in_turn}
use Rattle.sheet_lanes.specs.Rows.{plan_from, lane_text}
use Rattle.sheet_lanes.proofs.whole.write_lanes.Given as goal

abbrev pub invariant-loop-t : goal.invariant-loop-t
invariant-loop-t l = record {
  placed : l.place ≡ plan_from l.rows l.t;
  puts : Puts l.initial.out 16 (in_turn (lane_text l.fn.level l.rows l.plan) l.t) l.out l.at;
  small : l.place ≤ 65 * l.t;
}
