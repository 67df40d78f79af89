-- `machine_record::state::write_state` meets its contract. Behind the head are the lanes passed.
use Rattle.sheet_format.specs.Put.{Puts, in_turn}
use Rattle.machine_spec.specs.State.{lane_at}
use Rattle.machine_state.specs.States.{state_in}
use Rattle.machine_record.specs.Lanes.{state_lane}
use Rattle.machine_record.proofs.state.write_state.Given as goal

abbrev pub invariant-loop-t : goal.invariant-loop-t
invariant-loop-t l = Puts l.initial.out l.initial.next
    (in_turn (λ k. state_lane (lane_at (state_in l.state) k)) l.t) l.out l.next
