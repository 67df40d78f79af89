-- `sheet_lanes::whole::write_lanes` meets its contract. What is written is the lanes passed, one behind the other.
use mathlib.Core.Path.{◌≡◌, refl, sym, ap, subst, ◌∙◌}
use native.Mathlib.Omega.{arith}
use lib.ListN.{length, get_or, drop}
use Rattle.sheet_format.specs.Put.{in_turn}
use Rattle.sheet_format.proofs.Laws.Put.{puts_as}
use Rattle.sheet_format.proofs.Laws.Turn.{turn_none, turn_on_lem, turn_fits}
use Rattle.sheet_lanes.specs.Put.{lane_rows, SingleTo}
use Rattle.sheet_lanes.specs.Rows.{plan_in, lane_text}
use Rattle.sheet_lanes.proofs.Laws.Rows.{part_few, part_inside, part_count, part_text}
use Rattle.sheet_lanes.proofs.Laws.Rows.{plan_next, plan_room}
use Rattle.sheet_lanes.proofs.whole.write_lanes.Goals as goal

pub loop-t-init : goal.loop-t-init
loop-t-init c = record { placed = refl; puts = turn_none _; small = omega arith }

pub put_lane-at-requires : goal.put_lane-at-requires
put_lane-at-requires c =
    let many = part_count c.args.rows.now c.requires.short.0 c.requires.short.1 c.loop-t.t (omega arith) in
    let there : plan_in c.args.rows.now c.args.plan.now c.loop-t.t ≡ drop c.loop-t.place c.args.plan.now =
    ap (λ n. drop n c.args.plan.now) (sym c.loop-t.invariant.placed) in
    let count = get_or c.args.parts.count c.loop-t.t 0 in
    let lane = drop (get_or c.args.parts.from c.loop-t.t 0) c.args.rows.now in
    let size =
    ap length
    (ap (λ l. lane_rows l (drop c.loop-t.place c.args.plan.now) lane count) c.new-encoder.ensures
    ∙ ap (λ x. lane_rows c.args.level x lane count) (sym there)
    ∙ part_text c.args.rows.now c.requires.short.0 c.requires.short.1 c.loop-t.t
    (omega arith) c.args.level c.args.plan.now) in
    let fits =
    turn_fits (lane_text c.args.level c.args.rows.now c.args.plan.now) 4 c.loop-t.t c.requires.plan_in_bounds
    (omega arith) c.loop-t.invariant.puts in record {
      n_in_bounds = (
        part_inside c.args.rows.now c.requires.short.0 c.requires.short.1 c.loop-t.t (omega arith),
        omega (
          arith,
          plan_room c.args.rows.now c.loop-t.t (omega arith) c.requires.short.2,
          c.loop-t.invariant.placed,
          many,
        ),
      );
      single_to =
          subst (λ x. SingleTo x count) there
          (λ p h. c.requires.single_in c.loop-t.t (omega arith) p (omega (arith, many)));
      n_in_bounds_2 = omega (arith, size, fits.1);
    }

pub loop-t-preserved : goal.loop-t-preserved
loop-t-preserved c =
    let many = part_count c.args.rows.now c.requires.short.0 c.requires.short.1 c.loop-t.t (omega arith) in
    let count = get_or c.args.parts.count c.loop-t.t 0 in
    let lane = drop (get_or c.args.parts.from c.loop-t.t 0) c.args.rows.now in
    let text =
    ap (λ l. lane_rows l (drop c.loop-t.place c.args.plan.now) lane count) c.new-encoder.ensures
    ∙ ap (λ n. lane_rows c.args.level (drop n c.args.plan.now) lane count) c.loop-t.invariant.placed
    ∙ part_text c.args.rows.now c.requires.short.0 c.requires.short.1 c.loop-t.t
    (omega arith) c.args.level c.args.plan.now in record {
      placed = omega (arith, c.loop-t.invariant.placed, plan_next c.args.rows.now c.loop-t.t, many);
      puts = turn_on_lem (lane_text c.args.level c.args.rows.now c.args.plan.now) c.loop-t.t c.loop-t.invariant.puts
          (puts_as text c.put_lane-at.ensures);
      small =
          omega (
            arith,
            c.loop-t.invariant.small,
            part_few c.args.rows.now c.requires.short.0 c.requires.short.1 c.loop-t.t (omega arith),
          );
    }

pub returns : goal.returns
returns c =
    let last : c.loop-t.t ≡ 4 = omega arith in
    (puts_as (ap (in_turn (lane_text c.args.level c.args.rows.now c.args.plan.now)) last) c.loop-t.invariant.puts).bytes
