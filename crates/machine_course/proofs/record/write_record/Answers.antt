-- `machine_course::record::write_record` meets its contract.
use mathlib.Core.Path.{◌∙◌}
use Rattle.sheet_format.specs.Bytes.{over}
use Rattle.machine_record.specs.Record.{record_of}
use Rattle.machine_course.proofs.Laws.Sizes.{stands_fits}
use Rattle.machine_course.proofs.record.write_record.Goals as goal

pub write_state-requires : goal.write_state-requires
write_state-requires c =
    record {
      room = c.requires.room;
      sized = c.requires.moved.stands.sized;
      small =
          (stands_fits c.requires.moved.stands).small;
    }

pub returns : goal.returns
returns c =
    λ f m mvs rows so.
    let done = c.answer_finished-finished.ensures f m mvs rows so in
    c.write_state.ensures
    ∙ λ i. over (record_of (done i) (so.done i) (so.waited i) (so.state i)) c.args.out.now
