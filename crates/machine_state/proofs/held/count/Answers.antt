-- `machine_state::held::count` meets its contract.
use native.Mathlib.Omega.{arith}
use Rattle.machine_state.proofs.Laws.States.{pending_count_lem}
use Rattle.machine_state.proofs.held.count.Goals as goal

pub returns : goal.returns
returns c = (omega (arith, pending_count_lem c.args.state.now c.args.t c.requires), omega arith)
