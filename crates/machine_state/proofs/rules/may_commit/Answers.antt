-- `machine_state::rules::may_commit` meets its contract.
use mathlib.Core.Path.{ap, sym, ◌∙◌}
use mathlib.Core.Bool.{not}
use Rattle.machine_spec.specs.Marks.{no_mark}
use Rattle.machine_lane.specs.Lanes.{flags, entry_of}
use Rattle.machine_state.specs.States.{VALUES, word_at, lane_of}
use Rattle.machine_state.proofs.Laws.States.{pending_low}
use Rattle.machine_state.proofs.Laws.Rules.{pso_may, pending_at, none_older}
use borrow.Author.Rules.{rules}
use Rattle.machine_state.proofs.rules.may_commit.Goals as goal

pub word_at-cell-requires : goal.word_at-cell-requires
word_at-cell-requires c =
    let low = pending_low c.args.state.now c.args.t c.requires.0 c.args.index c.requires.1 in
    search rules

pub returns-then-is_sync : goal.returns-then-is_sync
returns-then-is_sync c =
    let v = word_at c.args.state.now c.args.t VALUES c.args.index in
    let here = pending_at c.args.state.now c.args.t c.args.index c.requires.1
    ∙ ap (λ x. entry_of x v) (sym c.word_at-cell.ensures) in
    rw (c.in-Source.is, here, sym (c.is_sync.ensures v) ∙ c.if-is_sync.true)
    (none_older (lane_of c.args.state.now c.args.t).pending c.args.index c.requires.1)

pub returns-else-is_sync : goal.returns-else-is_sync
returns-else-is_sync c =
    let v = word_at c.args.state.now c.args.t VALUES c.args.index in
    let here = pending_at c.args.state.now c.args.t c.args.index c.requires.1
    ∙ ap (λ x. entry_of x v) (sym c.word_at-cell.ensures) in
    rw (c.in-Source.is, here, sym (c.is_sync.ensures v) ∙ c.if-is_sync.false)
    (ap not (c.has_older.ensures v))

pub returns-in-Tso : goal.returns-in-Tso
returns-in-Tso c =
    rw (c.in-Target.is, c.in-Tso.is)
    (none_older (lane_of c.args.state.now c.args.t).pending c.args.index c.requires.1)

pub no_mark-requires : goal.no_mark-requires
no_mark-requires c =
    pending_low c.args.state.now c.args.t c.requires.0 c.args.index c.requires.1

pub word_at-requires : goal.word_at-requires
word_at-requires c =
    let low = pending_low c.args.state.now c.args.t c.requires.0 c.args.index c.requires.1 in
    search rules

pub returns-then-no_mark : goal.returns-then-no_mark
returns-then-no_mark c =
    let v = word_at c.args.state.now c.args.t VALUES c.args.index in
    let here = pending_at c.args.state.now c.args.t c.args.index c.requires.1
    ∙ ap (λ x. entry_of x v) (sym c.word_at.ensures) in
    let free = sym (c.no_mark.ensures ∙ ap (no_mark c.args.index) c.marks.ensures)
    ∙ c.if-no_mark.true in
    rw (c.in-Target.is, c.in-Pso.is, here)
    (ap not (c.has_older-then-no_mark.ensures v)
    ∙ pso_may (flags c.args.volatile.now) (lane_of c.args.state.now c.args.t).control.marks
    (lane_of c.args.state.now c.args.t).pending c.args.index _ c.requires.1 free)

pub returns-else-no_mark : goal.returns-else-no_mark
returns-else-no_mark c =
    let free = sym (c.no_mark.ensures ∙ ap (no_mark c.args.index) c.marks.ensures)
    ∙ c.if-no_mark.false in
    rw (c.in-Target.is, c.in-Pso.is)
    (pso_may (flags c.args.volatile.now) (lane_of c.args.state.now c.args.t).control.marks
    (lane_of c.args.state.now c.args.t).pending c.args.index _
    c.requires.1 free)
