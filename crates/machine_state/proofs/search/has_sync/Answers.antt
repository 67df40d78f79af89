-- `machine_state::search::has_sync` meets its contract.
use Prim.Native.Nat.{◌≤◌, ◌<◌}
use mathlib.Core.Path.{refl, sym, ◌∙◌}
use native.Mathlib.Omega.{arith}
use lib.ListN.{length}
use Rattle.machine_spec.specs.Entries.{is_sync, any_sync}
use Rattle.machine_lane.specs.Lanes.{flags}
use Rattle.machine_state.specs.States.{lane_of}
use Rattle.machine_state.proofs.Laws.Searches.{found, next, past, sync_at}
use Rattle.machine_state.proofs.search.has_sync.Goals as goal

pub loop-i-init : goal.loop-i-init
loop-i-init c = refl

pub returns-then-is_sync : goal.returns-then-is_sync
returns-then-is_sync c =
    let f = flags c.args.volatile.now in
    let es = (lane_of c.args.state.now c.args.t).pending in
    let inside : c.loop-i.i < length es = omega (arith, c.count-n.ensures.0) in
    let test = sync_at c.args.state.now c.args.t c.loop-i.i _ c.word_at.ensures f _ _ inside
    c.is_sync.ensures c.if-is_sync.true in
    sym (found (is_sync f) (any_sync f) refl (λ e r. refl) es c.loop-i.i inside test) ∙ c.loop-i.invariant

pub loop-i-preserved : goal.loop-i-preserved
loop-i-preserved c =
    let f = flags c.args.volatile.now in
    let es = (lane_of c.args.state.now c.args.t).pending in
    let inside : c.loop-i.i < length es = omega (arith, c.count-n.ensures.0) in
    let test = sync_at c.args.state.now c.args.t c.loop-i.i _ c.word_at.ensures f _ _ inside
    c.is_sync.ensures c.if-is_sync.false in
    sym (next (is_sync f) (any_sync f) refl (λ e r. refl) es c.loop-i.i inside test)
    ∙ c.loop-i.invariant

pub returns : goal.returns
returns c =
    let f = flags c.args.volatile.now in
    let es = (lane_of c.args.state.now c.args.t).pending in
    let end : length es ≤ c.loop-i.i = omega (arith, c.count-n.ensures.0) in
    sym (past (is_sync f) (any_sync f) refl (λ e r. refl) es c.loop-i.i end) ∙ c.loop-i.invariant
