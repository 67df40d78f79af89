-- `machine_state::shared::set_lock` meets its contract.
use mathlib.Core.Path.{sym, subst}
use Rattle.machine_state.specs.States.{Shared}
use Rattle.machine_state.proofs.Laws.States.{lock_set}
use Rattle.machine_state.proofs.shared.set_lock.Goals as goal

pub returns : goal.returns
returns c =
    subst (Shared _ _ _) (sym c.set_shared.ensures)
    (lock_set c.args.state.now c.requires c.args.l c.args.value)
