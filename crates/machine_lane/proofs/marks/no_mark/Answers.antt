-- `machine_lane::marks::no_mark` meets its contract.
use Rattle.machine_lane.proofs.Laws.Marks.{below_bit}
use Rattle.machine_lane.proofs.marks.no_mark.Goals as goal

pub returns : goal.returns
returns c = below_bit c.args.n c.args.marks c.requires
