-- `text_run::lane::put_lane` meets its contract. What is written behind its line are the first i entries.
use Prim.Native.Nat.{◌+◌, ◌*◌, ◌≤◌}
use Rattle.sheet_format.specs.Put.{Puts, in_turn}
use Rattle.machine_record.specs.Fields.{fields_in}
use Rattle.text_run.specs.Lanes.{pending_line}
use Rattle.text_run.proofs.lane.put_lane.Given as goal

abbrev pub invariant-loop-i : goal.invariant-loop-i
invariant-loop-i l = (l.at ≤ l.initial.at + 88 * l.i) × Puts l.initial.out l.initial.at
    (in_turn (pending_line (fields_in l.s) l.t) l.i) l.out l.at
