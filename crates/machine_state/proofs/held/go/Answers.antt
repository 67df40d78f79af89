-- `machine_state::held::go` meets its contract.
use Rattle.machine_state.proofs.Laws.States.{came}
use Rattle.machine_state.proofs.Laws.Writes.{position_set}
use Rattle.machine_state.proofs.held.go.Goals as goal

pub returns : goal.returns
returns c =
    came c.put_word.ensures (position_set c.args.state.now c.args.t c.requires c.args.next)
