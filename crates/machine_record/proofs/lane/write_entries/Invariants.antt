-- `machine_record::lane::write_entries` meets its contract. What is written is the places passed.
use lib.ListN.{get_elem?}
use Rattle.sheet_format.specs.Put.{Puts, in_turn}
use Rattle.machine_spec.specs.Marks.{mark_at}
use Rattle.machine_lane.specs.Lanes.{lane_in}
use Rattle.machine_record.specs.Lanes.{place_bytes}
use Rattle.machine_record.proofs.lane.write_entries.Given as goal

abbrev pub invariant-loop-i : goal.invariant-loop-i
invariant-loop-i l = Puts l.initial.out l.at
    (in_turn (λ k. place_bytes (mark_at (lane_in l.lane).control.marks k) (get_elem? (lane_in l.lane).pending k)) l.i)
    l.out l.next
