-- `machine_lane::lane::Lane::count` meets its contract.
use native.Mathlib.Omega.{arith}
use Rattle.machine_lane.proofs.Laws.Lanes.{pending_length}
use Rattle.machine_lane.proofs.lane.Lane.count.Goals as goal

pub returns : goal.returns
returns c = (
  omega (arith, pending_length c.args.self.now (omega arith) (omega arith)),
  omega arith,
)
