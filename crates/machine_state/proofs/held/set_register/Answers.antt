-- `machine_state::held::set_register` meets its contract.
use native.Mathlib.Omega.{arith}
use Rattle.machine_state.proofs.Laws.States.{came}
use Rattle.machine_state.proofs.Laws.Writes.{register_set, register_past}
use Rattle.machine_state.proofs.held.set_register.Goals as goal

pub returns-then-i-lt8 : goal.returns-then-i-lt8
returns-then-i-lt8 c =
    came c.put_word.ensures
    (rw c.from-i.ensures (register_set c.args.state.now c.args.t c.requires c.args.a c.args.value (omega arith)))

pub returns-else-i-lt8 : goal.returns-else-i-lt8
returns-else-i-lt8 c =
    register_past c.args.state.now c.args.t c.requires c.args.a c.args.value (omega arith)
