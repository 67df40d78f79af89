-- `lanerun::tell::record_of` meets its contract.
use mathlib.Core.Path.{◌∙◌}
use native.Mathlib.Omega.{arith}
use lib.ListN.{replicate}
use Rattle.machine_course.specs.Stands.{answer_by}
use Rattle.text_run.proofs.Laws.Ends.{record_over}
use Rattle.lanerun.proofs.tell.record_of.Goals as goal

pub returns : goal.returns
returns c =
    λ s m mvs rows so. c.write_record.ensures s m mvs rows so
    ∙ record_over (answer_by m s mvs) (replicate 2280 0) (omega arith)
