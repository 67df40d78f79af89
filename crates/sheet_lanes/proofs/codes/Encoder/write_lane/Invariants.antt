-- `sheet_lanes::codes::Encoder::write_lane` meets its contract. What is written is the rows passed, with their
-- barriers.
use Rattle.sheet_format.specs.Put.{Puts}
use Rattle.sheet_lanes.specs.Put.{lane_rows}
use Rattle.sheet_lanes.proofs.codes.Encoder.write_lane.Given as goal

abbrev pub invariant-loop-p : goal.invariant-loop-p
invariant-loop-p l = Puts l.initial.part 0 (lane_rows l.self.level l.plan l.rows l.p) l.part l.at
