-- `machine_start::run::run_lanes` meets its contract.
use mathlib.Core.Path.{ap, ◌∙◌}
use Rattle.std.specs.Prelude.{Ok}
use Rattle.sheet_format.specs.Bytes.{over}
use Rattle.machine_start.proofs.Laws.Runs.{begins_run, begins_runnable, few_ended}
use Rattle.machine_start.proofs.Laws.Runs.{never_refused, small, record_is}
use Rattle.machine_start.proofs.run.run_lanes.Goals as goal

pub run_bytes-answer-requires : goal.run_bytes-answer-requires
run_bytes-answer-requires c = (c.requires.start.begins.sized, begins_runnable c.requires.start.begins)

pub finished-finished-requires : goal.finished-finished-requires
finished-finished-requires c =
    let so = c.run_bytes-answer.ensures _ (begins_run c.requires.start.begins) in
    (so.sized, few_ended c.requires.start.begins so)

pub write_state-requires : goal.write_state-requires
write_state-requires c =
    let so = c.run_bytes-answer.ensures _ (begins_run c.requires.start.begins) in
    record { room = c.requires.room; sized = so.sized; small = small c.requires.start.begins so c.in-Ok.is }

pub returns-in-Err : goal.returns-in-Err
returns-in-Err c =
    λ s k b. absurd (never_refused b (c.run_bytes-answer.ensures _ (begins_run b)) c.in-Err.is)

pub returns-in-Ok : goal.returns-in-Ok
returns-in-Ok c =
    λ s k b.
    let so = c.run_bytes-answer.ensures _ (begins_run b) in
    (λ i. (Ok 2280, c.write_state.ensures i))
    ∙ ap (λ x. (Ok 2280, over x c.args.out.now)) (record_is b so
    c.in-Ok.is
    c.finished-finished.ensures)
