-- `text_run::states::tell_state` meets its contract. What is written behind the head are the first t lanes.
use Prim.Native.Nat.{◌+◌, ◌*◌, ◌^◌, ◌≤◌}
use Rattle.sheet_format.specs.Put.{Puts, in_turn}
use Rattle.machine_record.specs.Fields.{fields_in}
use Rattle.text_run.specs.Lanes.{lane_text}
use Rattle.text_run.proofs.states.tell_state.Given as goal

abbrev pub invariant-loop-t : goal.invariant-loop-t
invariant-loop-t l =
    (l.at ≤ l.initial.at + 2 ^ 23 * l.t) ×
    Puts l.initial.out l.initial.at (in_turn (lane_text (fields_in l.record)) l.t) l.out l.at
