-- `machine_step::local::leave_mark` meets its contract.
use Rattle.std.proofs.Common.{sym, ◌∙◌}
use Rattle.machine_state.proofs.Laws.Writes.{stays}
use Rattle.machine_step.proofs.local.leave_mark.Goals as goal

pub returns-else-leaves_mark : goal.returns-else-leaves_mark
returns-else-leaves_mark c =
    rw (sym c.leaves_mark.ensures ∙ c.if-leaves_mark.false) (stays c.args.state.now c.args.t c.requires)
