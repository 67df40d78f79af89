-- `machine_course::begin::start_rows` meets its contract.
use Rattle.machine_course.proofs.Laws.Starts.{started_by}
use Rattle.machine_course.proofs.begin.start_rows.Goals as goal

pub returns : goal.returns
returns c = started_by c.extent_of.ensures.lanes c.extent_of.ensures.locations c.extent_of.ensures.locks c.start.ensures
