-- `machine_step::commit::commit` meets its contract.
use Rattle.std.proofs.Common.{List, sym, ap, ◌∙◌, ap₂, arith}
use Rattle.machine_spec.specs.Entries.{Entry, without}
use Rattle.machine_spec.specs.Step.{landed, freed}
use Rattle.machine_lane.specs.declared.lane.Lane.{Lane}
use Rattle.machine_lane.specs.Lanes.{entry_of, lane_in, with_pending}
use Rattle.machine_state.specs.States.{state_in}
use Rattle.machine_state.proofs.Laws.States.{became, then_became, shared}
use Rattle.machine_step.proofs.Laws.Turns.{same_lane}
use Rattle.machine_step.proofs.Laws.Commits.{shifted, commit_past, commit_waits, commit_does}
use Rattle.machine_step.proofs.commit.commit.Goals as goal

pub returns-then-index-count : goal.returns-then-index-count
returns-then-index-count c =
    commit_past c.args.machine _ c.args.state.now c.args.t c.args.index
    (omega (arith, c.if-index-count.true, c.count.ensures.0)) c.requires.sized

pub returns-then-not-may_commit : goal.returns-then-not-may_commit
returns-then-not-may_commit c =
    commit_waits c.args.machine _ c.args.state.now c.args.t c.args.index
    (omega (arith, c.if-index-count.false, c.count.ensures.0))
    (sym c.may_commit.ensures ∙ c.if-not-may_commit.true) c.requires.sized

pub returns : goal.returns
returns c =
    let entry = ap₂ entry_of c.word_at.ensures
    c.word_at-2.ensures in
    let settled = shared (ap (landed (state_in c.args.state.now).memory) entry)
    (ap (freed (state_in c.args.state.now).locks) entry)
    c.settle.ensures in
    let rest : Lane → List Entry = λ l. without c.args.index (lane_in l).pending in
    let left = ap (λ l. l.pending) c.commit-rest.ensures
    ∙ ap rest c.take.ensures in
    let listed = became (ap₂ with_pending (same_lane settled c.requires.lane) left)
    c.put_list.ensures in
    commit_does c.args.machine _ c.args.state.now c.args.t c.args.index _ _
    (omega (arith, c.if-index-count.false, c.count.ensures.0))
    (sym c.may_commit.ensures ∙ c.if-not-may_commit.false) settled
    (then_became listed (became (ap shifted listed.lane) c.shift_marks.ensures))
