-- `machine_state::held::put_list` meets its contract.
use mathlib.Core.List.{[]}
use lib.ListN.{get_or, set}
use native.Mathlib.Omega.{arith}
use Rattle.machine_state.specs.States.{CELLS, VALUES}
use Rattle.machine_state.proofs.Laws.States.{again, came}
use Rattle.machine_state.proofs.Laws.Writes.{list_set}
use Rattle.machine_state.proofs.held.put_list.Goals as goal

pub returns : goal.returns
returns c =
    came c.put_word.ensures
    (list_set c.args.state.now c.args.t c.requires _ c.args.lane.cells c.args.lane.values c.args.lane.len
    (omega arith) (omega arith)
    (again c.args.state.now c.args.t c.requires (set (get_or c.args.state.now c.args.t []) CELLS c.args.lane.cells)
    (λ b. set b VALUES c.args.lane.values)))
