-- `machine_state::held::write_register` meets its contract.
use mathlib.Core.Path.{ap}
use Rattle.machine_lane.specs.Lanes.{placed_at}
use Rattle.machine_state.proofs.Laws.States.{became, then_became}
use Rattle.machine_state.proofs.held.write_register.Goals as goal

pub returns : goal.returns
returns c =
    then_became c.set_register.ensures (became (ap (λ l. placed_at l c.args.next) c.set_register.ensures.lane)
    c.go.ensures)
