-- `machine_state::search::has_older` meets its contract.
use Prim.Native.Nat.{◌≤◌, ◌<◌}
use mathlib.Core.Path.{refl, sym, ◌∙◌}
use native.Mathlib.Omega.{arith}
use borrow.Author.Tests.{eq-eqb, ne_eqb}
use lib.ListN.{length, take, length-take}
use Rattle.machine_spec.specs.Entries.{same_target, any_same}
use Rattle.machine_lane.specs.Lanes.{entry_of}
use Rattle.machine_state.specs.States.{lane_of}
use Rattle.machine_state.proofs.Laws.States.{pending_count_lem}
use Rattle.machine_state.proofs.Laws.Searches.{found, next, past, same_at}
use borrow.Author.Rules.{rules}
use Rattle.machine_state.proofs.search.has_older.Goals as goal

pub loop-i-init : goal.loop-i-init
loop-i-init c = λ v. refl

pub word_at-requires : goal.word_at-requires
word_at-requires c =
    let low : c.args.n ≤ 64 =
    omega (arith, pending_count_lem c.args.state.now c.args.t c.requires.0, c.requires.1) in
    search rules

pub returns-then-word_at-cell : goal.returns-then-word_at-cell
returns-then-word_at-cell c =
    let es = take c.args.n (lane_of c.args.state.now c.args.t).pending in
    let low : c.loop-i.i < c.args.n = c.loop-i-test.true in
    let inside : c.loop-i.i < length es =
    omega (arith, length-take c.args.n (lane_of c.args.state.now c.args.t).pending, c.requires.1) in
    λ v. let test = same_at c.args.state.now c.args.t c.loop-i.i _ c.word_at.ensures c.args.cell v c.args.n _ low
    c.requires.1
    (eq-eqb _ _ c.if-word_at-cell.true) in
    let e = entry_of c.args.cell v in
    sym (found (same_target e) (any_same e) refl (λ x r. refl) es c.loop-i.i inside test) ∙ c.loop-i.invariant v

pub loop-i-preserved : goal.loop-i-preserved
loop-i-preserved c =
    let es = take c.args.n (lane_of c.args.state.now c.args.t).pending in
    let low : c.loop-i.i < c.args.n = c.loop-i-test.true in
    let inside : c.loop-i.i < length es =
    omega (arith, length-take c.args.n (lane_of c.args.state.now c.args.t).pending, c.requires.1) in
    λ v. let test = same_at c.args.state.now c.args.t c.loop-i.i _ c.word_at.ensures c.args.cell v c.args.n _ low
    c.requires.1
    (ne_eqb _ _ c.if-word_at-cell.false) in
    let e = entry_of c.args.cell v in
    sym (next (same_target e) (any_same e) refl (λ x r. refl) es c.loop-i.i inside test) ∙ c.loop-i.invariant v

pub returns : goal.returns
returns c =
    let es = take c.args.n (lane_of c.args.state.now c.args.t).pending in
    let end : length es ≤ c.loop-i.i =
    omega (arith, length-take c.args.n (lane_of c.args.state.now c.args.t).pending) in
    λ v. let e = entry_of c.args.cell v in
    sym (past (same_target e) (any_same e) refl (λ x r. refl) es c.loop-i.i end) ∙ c.loop-i.invariant v
