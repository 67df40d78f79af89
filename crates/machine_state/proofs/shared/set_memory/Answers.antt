-- `machine_state::shared::set_memory` meets its contract.
use mathlib.Core.Path.{sym, subst}
use Rattle.machine_state.specs.States.{Shared}
use Rattle.machine_state.proofs.Laws.States.{memory_set}
use Rattle.machine_state.proofs.shared.set_memory.Goals as goal

pub returns : goal.returns
returns c =
    subst (Shared _ _ _) (sym c.set_shared.ensures)
    (memory_set c.args.state.now c.requires c.args.x c.args.value)
