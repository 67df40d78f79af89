-- `machine_record::put::put_table` meets its contract. What is written is the words passed.
use lib.ListN.{get_or}
use Rattle.sheet_format.specs.Bytes.{quad_bytes}
use Rattle.sheet_format.specs.Put.{Puts, in_turn}
use Rattle.machine_record.proofs.put.put_table.Given as goal

abbrev pub invariant-loop-i : goal.invariant-loop-i
invariant-loop-i l = Puts l.initial.out l.at (in_turn (λ i. quad_bytes (get_or l.words i 0)) l.i) l.out
    l.next
