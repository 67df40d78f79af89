-- `machine_step::step::move_lane` meets its contract.
use Rattle.std.proofs.Common.{drop}
use Rattle.sheet_format.specs.Read.{read_rows}
use Rattle.machine_lane.specs.Lanes.{flags}
use Rattle.machine_step.proofs.Laws.Programs.{made_commit, made_as}
use Rattle.machine_step.proofs.step.move_lane.Goals as goal

pub returns-then-choice-eq0 : goal.returns-then-choice-eq0
returns-then-choice-eq0 c =
    let prog = read_rows c.args.count (drop c.args.first c.args.sheet.now) in
    made_as c.args.machine (flags c.args.volatile.now) prog _ c.args.t c.if-choice-eq0.true
    c.carry_next.ensures

pub returns : goal.returns
returns c =
    let prog = read_rows c.args.count (drop c.args.first c.args.sheet.now) in
    made_commit c.args.machine (flags c.args.volatile.now) prog _ c.args.t c.args.choice c.if-choice-eq0.false
    (rw c.from-index.ensures at c.commit.ensures)
