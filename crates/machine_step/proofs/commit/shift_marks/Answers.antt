-- `machine_step::commit::shift_marks` meets its contract.
use Rattle.std.proofs.Common.{◌≡◌, ◌/◌, ap, arith}
use Rattle.machine_lane.specs.Lanes.{with_marks}
use Rattle.machine_state.specs.States.{lane_of}
use Rattle.machine_state.proofs.Laws.States.{became}
use Rattle.machine_state.proofs.Laws.Writes.{stays}
use Rattle.machine_step.proofs.commit.shift_marks.Goals as goal

pub returns-else-all-ne0 : goal.returns-else-all-ne0
returns-else-all-ne0 c =
    let l = lane_of c.args.state.now c.args.t in
    let none : l.control.marks ≡ l.control.marks / 2 = omega (arith, c.if-all-ne0.false, c.marks-all.ensures) in
    became (ap (with_marks l) none) (stays c.args.state.now c.args.t c.requires)
