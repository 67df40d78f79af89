-- `machine_course::start::start` meets its contract.
use mathlib.Core.Path.{refl}
use Rattle.machine_course.proofs.Laws.Starts.{started_as}
use Rattle.machine_course.proofs.start.start.Goals as goal

pub returns : goal.returns
returns c = started_as c.args.extent.lanes c.args.extent.locations c.args.extent.locks refl
