-- `barrier_pass::place::place_lane` meets its contract.
-- The loop's invariant: for the operations whose rows are given, due is what is due after the position before p,
-- brought has what jumps from below p bring to each position from p on, p begins at `at`, and the plan has the numbers
-- of the positions below p.
use Prim.Native.Nat.{◌+◌, ◌<◌}
use native.Mathlib.Omega.{arith}
use mathlib.Core.Path.{◌≡◌, refl, sym, ap, subst, ◌∙◌}
use mathlib.Core.Logic.{inl, inr}
use lib.ListN.{length, get_or, length-set}
use lib.Seq.{get_or-set_same, get_or-set_other}
use Rattle.file_format.specs.Accepted.{is_volatile}
use Rattle.file_format.specs.Stored.{no_op}
use Rattle.barrier_placement.specs.declared.cookbook.Barrier.{Barrier}
use Rattle.barrier_placement.specs.Chain.{at}
use Rattle.barrier_placement.specs.Placed.{bit, bit_of, landing}
use Rattle.barrier_placement.specs.Place.{stands}
use Rattle.barrier_placement.specs.Steps.{steps}
use Rattle.barrier_placement.proofs.Laws.Pass.{stands_here, turn}
use Rattle.sheet_rows.specs.declared.read.Row.{Row}
use Rattle.sheet_rows.specs.Lanes.{fields_of}
use Rattle.sheet_rows.proofs.Laws.Lanes.{held_fields}
use Rattle.barrier_pass.specs.Known.{known_of}
use Rattle.barrier_pass.proofs.Laws.Known.{step_is}
use Rattle.barrier_pass.proofs.Laws.Plan.{Placing, placing_none, placing_on, placing_end}
use Rattle.barrier_pass.proofs.place.place_lane.Goals as goal
use Rattle.barrier_pass.proofs.place.place_lane.Goals.{then-p-t, else-p-t}

pub loop-p-init : goal.loop-p-init
loop-p-init c = record {
  sized = refl;
  early = omega arith;
  rest = λ j h. refl;
  placing = λ ops h. placing_none (is_volatile c.args.mask) ops c.args.plan.now;
}

pub plan_step-at-requires : goal.plan_step-at-requires
plan_step-at-requires c = (
  omega (arith, c.requires.room.2, c.loop-p.auto.plan),
  c.loop-p.invariant.early,
  omega (arith, c.requires.room.0),
  c.plan_set.ensures.1,
)

pub loop-p-preserved : goal.loop-p-preserved
loop-p-preserved c =
    let room : c.loop-p.p < length c.loop-p.plan = omega (arith, c.requires.room.2, c.loop-p.auto.plan) in
    let vol = is_volatile c.args.mask in record {
      sized =
          elim c.if-p-t.branch [
            | then-p-t w ↦ rw w.brought-is (simp length-set c.loop-p.invariant.sized)
            | else-p-t w ↦ rw w.brought-is c.loop-p.invariant.sized
          ];
      early = c.plan_step-at.ensures.next.1;
      rest = λ j h.
          ap (λ q. get_or q j 0) c.plan_step-at.ensures.plan
          ∙ get_or-set_other c.loop-p.plan c.loop-p.p j (c.loop-p.at + c.plan_set.result) 0 (λ e. omega arith)
          ∙ c.loop-p.invariant.rest j h;
      placing = λ ops h.
          let o = get_or ops c.loop-p.p no_op in
          let t = steps vol ops in
          let below : c.loop-p.p < c.args.n = omega arith in
          let row : c.whole_row-row.result ≡ fields_of o = c.whole_row-row.ensures ∙ held_fields h c.loop-p.p below in
          let known : c.known_of-x.result ≡ known_of (at t c.loop-p.p) =
          c.known_of-x.ensures.0 o (ap (λ (r : Row). r.code) row) (ap (λ (r : Row). r.b) row)
          ∙ ap known_of (step_is vol h c.loop-p.p below) in
          let lands : c.landing_of-t.result ≡ landing (at t c.loop-p.p) =
          c.landing_of-t.ensures.0 o vol (ap (λ (r : Row). r.code) row) (ap (λ (r : Row). r.word) row)
          ∙ ap landing (step_is vol h c.loop-p.p below) in
          let placing = c.loop-p.invariant.placing ops h in
          let turned : (b : Barrier) → bit c.stands_at-stood.result (bit_of b) ≡ stands t b c.loop-p.p =
          λ b. c.stands_at-stood.ensures.0 (at t c.loop-p.p) b known
          ∙ stands_here t b (placing.reached b) (omega (arith, c.requires.room.0)) refl in
          rw (c.plan_step-at.ensures.plan, c.plan_step-at.ensures.next.0)
          (placing_on vol ops placing room c.stands_at-stood.result c.args.tables.now.by_set
          (omega (arith, h.count)) c.stands_at-stood.ensures.1 turned
          (λ b. turn t b (placing.reached b) (omega (arith, c.requires.room.0)) refl c.raises.result
          (turned b)
          (c.raises.ensures (at t c.loop-p.p) b known)
          (c.after-due.ensures b)
          lands
          (elim c.if-p-t.branch
          [ then-p-t w ↦ inl (w.if-p-t.true, w.brought-is) | else-p-t w ↦ inr (w.if-p-t.false, w.brought-is) ]))
          c.plan_set.result (c.plan_set.ensures.0 o (ap (λ (r : Row). r.code) row)));
    }

pub returns : goal.returns
returns c =
    let last : c.loop-p.p ≡ c.args.n = omega arith in
    let room : c.args.n < length c.loop-p.plan = omega (arith, c.requires.room.2, c.loop-p.auto.plan) in record {
      end = sym (get_or-set_same c.loop-p.plan c.args.n c.loop-p.at 0 room);
      numbers = λ ops h p le.
          let placing : Placing (is_volatile c.args.mask) ops c.loop-p.due c.loop-p.brought c.loop-p.plan c.loop-p.at
          c.args.n =
          subst (λ q. Placing (is_volatile c.args.mask) ops c.loop-p.due c.loop-p.brought c.loop-p.plan c.loop-p.at q)
          last
          (c.loop-p.invariant.placing ops h) in
          placing_end (is_volatile c.args.mask) ops placing room h.count p le;
      rest = λ p past. get_or-set_other c.loop-p.plan c.args.n p c.loop-p.at 0 (λ e. omega arith)
          ∙ c.loop-p.invariant.rest p past;
    }
