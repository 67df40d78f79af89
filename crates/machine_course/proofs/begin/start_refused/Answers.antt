-- `machine_course::begin::start_refused` meets its contract.
use native.Mathlib.Omega.{arith}
use Rattle.machine_course.proofs.Laws.Starts.{started_by, refused_header}
use Rattle.machine_course.proofs.begin.start_refused.Goals as goal

pub returns-else-number_of-lt3 : goal.returns-else-number_of-lt3
returns-else-number_of-lt3 c =
    refused_header c.args.file.now c.args.refusal (omega (arith, c.number_of.ensures, c.if-number_of-lt3.false))
    (started_by c.extent_of.ensures.lanes c.extent_of.ensures.locations c.extent_of.ensures.locks
    c.start-else-number_of-lt3.ensures)
