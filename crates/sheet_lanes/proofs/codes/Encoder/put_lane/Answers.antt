-- `sheet_lanes::codes::Encoder::put_lane` meets its contract. The part of the buffer from `at` on takes the lane.
use Prim.Native.Nat.{◌≤◌}
use mathlib.Core.Path.{sym, ap, ap₂, subst}
use native.Mathlib.Omega.{arith}
use lib.ListN.{length, drop}
use Rattle.laws.proofs.Parts.{take_rest, part_length}
use Rattle.sheet_format.proofs.Laws.Part.{part_back}
use Rattle.sheet_format.proofs.Laws.Put.{puts_as}
use Rattle.sheet_lanes.specs.Put.{lane_rows, SingleTo}
use Rattle.sheet_lanes.proofs.codes.Encoder.put_lane.Goals as goal

pub write_lane-wrote-requires : goal.write_lane-wrote-requires
write_lane-wrote-requires c =
    let text = ap length (ap₂ (λ x y. lane_rows c.args.self.level x y c.args.n) (take_rest c.args.place c.args.plan.now)
    (take_rest c.args.first c.args.rows.now)) in
    let inside : c.args.at ≤ length c.args.out.now = omega (arith, c.requires.n_in_bounds_2) in record {
      rows = (
        omega (
          arith,
          c.requires.n_in_bounds.0,
          part_length c.args.rows.now c.args.first (omega (arith, c.requires.n_in_bounds.0)),
        ),
        omega (
          arith,
          c.requires.n_in_bounds.1,
          part_length c.args.plan.now c.args.place (omega (arith, c.requires.n_in_bounds.1)),
        ),
        subst (λ x. SingleTo x c.args.n) (sym (take_rest c.args.place c.args.plan.now)) c.requires.single_to,
      );
      room = omega (arith, text, part_length c.args.out.now c.args.at inside, c.requires.n_in_bounds_2);
    }

pub overflow_add-result : goal.overflow_add-result
overflow_add-result c =
    let text = ap length (ap₂ (λ x y. lane_rows c.args.self.level x y c.args.n) (take_rest c.args.place c.args.plan.now)
    (take_rest c.args.first c.args.rows.now)) in
    omega (arith, text, c.write_lane-wrote.ensures.behind, c.requires.n_in_bounds_2, c.well_formed)

pub returns : goal.returns
returns c =
    let text =
    lane_rows c.args.self.level (drop c.args.place c.args.plan.now) (drop c.args.first c.args.rows.now) c.args.n in
    part_back c.args.out.now text c.args.at c.requires.n_in_bounds_2
    (puts_as (ap₂ (λ x y. lane_rows c.args.self.level x y c.args.n) (take_rest c.args.place c.args.plan.now)
    (take_rest c.args.first c.args.rows.now))
    c.write_lane-wrote.ensures)
