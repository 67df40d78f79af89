-- `machine_course::begin::begin` meets its contract.
use mathlib.Core.Path.{sym, ◌∙◌}
use Rattle.machine_start.proofs.Laws.Files.{file_verdict, file_accepted}
use Rattle.machine_course.proofs.Laws.Begins.{begins_refused, begins_accepted}
use Rattle.machine_course.proofs.begin.begin.Goals as goal

pub returns-in-Err : goal.returns-in-Err
returns-in-Err c =
    let v = file_verdict c.args.machine c.args.file.now c.args.rows.now c.requires.0
    c.in-Err.ensures in
    begins_refused c.args.machine c.args.file.now v c.start_refused.ensures c.blocked.ensures

pub returns-in-Ok : goal.returns-in-Ok
returns-in-Ok c =
    let b = file_accepted c.args.machine c.args.file.now c.args.rows.now c.requires.0
    c.in-Ok.ensures in
    begins_accepted c.args.machine b c.requires.0
    (c.from.ensures ∙ c.word_at.ensures.0) c.underway.ensures
    c.start_rows.ensures
