-- `sheet_lanes::codes::Encoder::write_lane` meets its contract. What is written is the rows passed, with their
-- barriers.
use Prim.Native.Nat.{◌+◌, ◌≤◌}
use mathlib.Core.Path.{◌≡◌, ap}
use native.Mathlib.Omega.{arith}
use lib.ListN.{length}
use Rattle.sheet_format.specs.Put.{in_turn}
use Rattle.sheet_format.proofs.Laws.Put.{puts_as}
use Rattle.sheet_format.proofs.Laws.Turn.{turn_none, turn_on_lem, turn_fits}
use Rattle.sheet_lanes.specs.Put.{step_rows, lane_rows}
use Rattle.sheet_lanes.proofs.codes.Encoder.write_lane.Goals as goal

pub loop-p-init : goal.loop-p-init
loop-p-init c = turn_none _

pub put_step-at-requires : goal.put_step-at-requires
put_step-at-requires c =
    let text = step_rows c.args.self.level c.args.plan.now c.args.rows.now in
    let room : 0 + length (in_turn text c.args.n) ≤ length c.args.part.now = omega (arith, c.requires.room) in
    record {
      p_in_bounds = (
        omega arith,
        omega (arith, c.requires.rows.1),
        c.requires.rows.2 c.loop-p.p (omega arith),
      );
      p_in_bounds_2 = (turn_fits text c.args.n c.loop-p.p room (omega arith) c.loop-p.invariant).1;
    }

pub loop-p-preserved : goal.loop-p-preserved
loop-p-preserved c =
    let text = step_rows c.args.self.level c.args.plan.now c.args.rows.now in
    turn_on_lem text c.loop-p.p c.loop-p.invariant c.put_step-at.ensures

pub returns : goal.returns
returns c =
    let last : c.loop-p.p ≡ c.args.n = omega arith in
    puts_as (ap (lane_rows c.args.self.level c.args.plan.now c.args.rows.now) last) c.loop-p.invariant
