-- `machine_record::state::put_memory` meets its contract. What is written is the values passed.
use lib.ListN.{get_or}
use Rattle.sheet_format.specs.Bytes.{quad_bytes}
use Rattle.sheet_format.specs.Put.{Puts, in_turn}
use Rattle.machine_state.specs.States.{state_in}
use Rattle.machine_record.proofs.state.put_memory.Given as goal

abbrev pub invariant-loop-x : goal.invariant-loop-x
invariant-loop-x l = Puts l.initial.out l.at
    (in_turn (λ i. quad_bytes (get_or (state_in l.state).memory i 0)) l.x) l.out l.next
