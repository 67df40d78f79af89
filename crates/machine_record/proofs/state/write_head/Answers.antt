-- `machine_record::state::write_head` meets its contract: its fields one after the other.
use mathlib.Core.List.{[], ◌∷◌}
use Rattle.sheet_format.proofs.Laws.Put.{puts_on, puts_as}
use Rattle.machine_record.specs.Record.{head_bytes}
use Rattle.sheet_format.specs.Put.{in_turn}
use Rattle.machine_record.proofs.state.write_head.Goals as goal

pub returns : goal.returns
unfolding head_bytes in_turn
returns c =
    let first = puts_as (λ i. c.flag.ensures i ∷ 0 ∷ 0 ∷ 0 ∷ []) c.put_four-next.ensures in
    let locks =
    puts_as
    (λ i. c.lock_byte-a.ensures i ∷ c.lock_byte-b.ensures i
    ∷ c.lock_byte-c.ensures i ∷ c.lock_byte-d.ensures i ∷ []) c.put_four-next-2.ensures in
    puts_on (puts_on (puts_on (puts_on first locks) c.put_double-next.ensures)
    c.put_double-next-2.ensures) c.put_memory.ensures
