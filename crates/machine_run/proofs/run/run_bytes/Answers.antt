-- `machine_run::run::run_bytes` meets its contract.
use Prim.Native.Nat.{◌/◌, ◌≤◌}
use mathlib.Core.Path.{◌≡◌, refl}
use mathlib.Core.List.{[]}
use mathlib.Core.Logic.{inl, inr}
use native.Mathlib.Omega.{arith}
use lib.ListN.{length}
use Rattle.machine_spec.specs.Moves.{moves_in}
use Rattle.machine_spec.proofs.Laws.Moves.{moves_at, moves_length}
use Rattle.machine_run.proofs.Laws.Runs.{lane_below, lane_moves, inside, Counted}
use Rattle.machine_run.proofs.Laws.Runs.{counted_few, run_refused, run_counted, ends_all}
use Rattle.machine_run.proofs.run.run_bytes.Goals as goal
use Rattle.machine_run.proofs.run.run_bytes.Goals.{in-Waited, in-Done}

pub loop-k-init : goal.loop-k-init
loop-k-init c = (
  c.requires.0,
  omega arith,
  omega arith,
  λ i h. lane_below c.requires.1.runs i _ (moves_at c.args.moves.now i h),
  λ prog h. record { sized = c.requires.0; lanes = refl; row = []; outcome = refl },
)

pub move_lane-moved-requires : goal.move_lane-moved-requires
move_lane-moved-requires c =
    let at = moves_at c.args.moves.now c.loop-k.k (omega arith) in (
      lane_moves c.requires.1.runs c.loop-k.k _ at _ _ _ c.loop-k.invariant.0
          (c.loop-k.invariant.4 _ c.requires.1.runs),
      inside c.requires.1.runs c.loop-k.k _ at,
    )

pub returns-in-ReleaseNotHeld : goal.returns-in-ReleaseNotHeld
returns-in-ReleaseNotHeld c =
    let at = moves_at c.args.moves.now c.loop-k.k (omega arith) in
    λ prog h. run_refused h c.loop-k.k _ at _ _ _ _ _ c.loop-k.invariant.0 c.move_lane-moved.ensures
    (c.loop-k.invariant.4 prog h)
    c.position-here.ensures c.in-ReleaseNotHeld.is

pub loop-k-preserved : goal.loop-k-preserved
loop-k-preserved c =
    let at = moves_at c.args.moves.now c.loop-k.k (omega arith) in
    let counted : Counted c.move_lane-moved.result c.loop-k.done c.match-moved.done =
    elim c.match-moved.branch [
      | in-Waited w ↦ inl (w.in-Waited.is, w.done-is)
      | in-Done w ↦ inr (w.in-Done.is, w.done-is)
    ] in (
      c.move_lane-moved.ensures.sized,
      counted_few c.loop-k.k c.loop-k.done c.match-moved.done counted c.loop-k.invariant.1,
      c.loop-k.invariant.2,
      c.loop-k.invariant.3,
      λ prog h. run_counted h c.loop-k.k _ at _ _ _ _ _ c.loop-k.invariant.0 c.move_lane-moved.ensures
          (c.loop-k.invariant.4 prog h) _ counted c.loop-k.invariant.1 refl,
    )

pub returns : goal.returns
returns c =
    let all : length (moves_in c.args.moves.now) ≤ c.loop-k.k = omega (arith, moves_length c.args.moves.now) in
    let last : c.loop-k.k ≡ length c.args.moves.now / 2 = omega arith in
    λ prog h. rw (← last) (ends_all _ _ _ prog _ c.loop-k.k _ _ all (c.loop-k.invariant.4 prog h))
