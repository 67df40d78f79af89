-- `sheet_lanes::plan::plan_lanes` meets its contract. What is written is the plans of the lanes passed.
use mathlib.Core.Path.{◌≡◌, refl, ap, subst, ◌∙◌}
use native.Mathlib.Omega.{arith}
use lib.ListN.{get_or, drop, length-set}
use Rattle.sheet_lanes.specs.Rows.{PlanFor, plan_in, PlansTo}
use Rattle.sheet_lanes.proofs.Laws.Rows.{part_few, part_inside, part_count, part_plan}
use Rattle.sheet_lanes.proofs.Laws.Rows.{plan_next, plan_room, plans_none, plans_on}
use Rattle.sheet_lanes.proofs.plan.plan_lanes.Goals as goal

pub loop-t-init : goal.loop-t-init
loop-t-init c =
    record {
      four = refl;
      placed = refl;
      plans = plans_none c.args.rows.now c.args.mask c.args.plan.now _;
      small = omega arith;
    }

pub plan_at-requires : goal.plan_at-requires
plan_at-requires c =
    let few = part_few c.args.rows.now c.requires.0 c.requires.1 c.loop-t.t (omega arith) in
    let inside = part_inside c.args.rows.now c.requires.0 c.requires.1 c.loop-t.t (omega arith) in
    let room = plan_room c.args.rows.now c.loop-t.t (omega arith) c.requires.2 in
    let many = part_count c.args.rows.now c.requires.0 c.requires.1 c.loop-t.t (omega arith) in
    record { room = (few, inside, omega (arith, c.loop-t.auto.plan, c.loop-t.invariant.placed, room, many)) }

pub loop-t-preserved : goal.loop-t-preserved
loop-t-preserved c =
    let many = part_count c.args.rows.now c.requires.0 c.requires.1 c.loop-t.t (omega arith) in
    let few = part_few c.args.rows.now c.requires.0 c.requires.1 c.loop-t.t (omega arith) in
    let there : drop c.loop-t.place c.plan_at.new.plan ≡ plan_in c.args.rows.now c.plan_at.new.plan c.loop-t.t =
    ap (λ n. drop n c.plan_at.new.plan) c.loop-t.invariant.placed in record {
      four = length-set c.loop-t.ends c.loop-t.t c.plan_at.result ∙ c.loop-t.invariant.four;
      placed = omega (arith, c.loop-t.invariant.placed, plan_next c.args.rows.now c.loop-t.t, many);
      plans = plans_on c.args.rows.now c.args.mask c.loop-t.plan c.plan_at.new.plan c.loop-t.ends c.loop-t.t
          c.plan_at.result
          c.loop-t.invariant.plans
          (omega (arith, c.loop-t.invariant.four))
          (λ i h. c.plan_at.ensures.before i (omega (arith, c.loop-t.invariant.placed)))
          (part_plan c.args.rows.now c.requires.0 c.requires.1 c.loop-t.t (omega arith) c.args.mask
          (plan_in c.args.rows.now c.plan_at.new.plan c.loop-t.t)
          (subst (PlanFor (drop (get_or c.args.parts.from c.loop-t.t 0) c.args.rows.now)
          (get_or c.args.parts.count c.loop-t.t 0)
          c.args.mask) there c.plan_at.ensures.lane))
          (c.plan_at.ensures.end ∙ ap (λ z. get_or z (get_or c.args.parts.count c.loop-t.t 0) 0) there
          ∙ ap (λ n. get_or (plan_in c.args.rows.now c.plan_at.new.plan c.loop-t.t) n 0) many);
      small = omega (arith, c.loop-t.invariant.small, few);
    }

pub returns : goal.returns
returns c =
    let last : c.loop-t.t ≡ 4 = omega arith in
    subst (PlansTo c.args.rows.now c.args.mask c.loop-t.plan c.loop-t.ends) last c.loop-t.invariant.plans
