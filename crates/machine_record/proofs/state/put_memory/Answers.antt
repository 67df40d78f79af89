-- `machine_record::state::put_memory` meets its contract. What is written is the values passed.
use mathlib.Core.Path.{◌≡◌, refl, ap, ◌∙◌}
use native.Mathlib.Omega.{arith}
use lib.ListN.{get_or}
use Rattle.sheet_format.specs.Bytes.{quad_bytes}
use Rattle.sheet_format.specs.Put.{in_turn}
use Rattle.sheet_format.proofs.Laws.Put.{puts_as, puts_length}
use Rattle.sheet_format.proofs.Laws.Turn.{turn_none, turn_on_lem, turn_end}
use Rattle.machine_state.specs.States.{state_in}
use Rattle.machine_record.proofs.state.put_memory.Goals as goal

pub loop-x-init : goal.loop-x-init
loop-x-init c = turn_none _

pub put_quad-next-requires : goal.put_quad-next-requires
put_quad-next-requires c =
    let end = turn_end
    (λ i. quad_bytes (get_or (state_in c.args.state.now
    ).memory i 0)) 4 c.loop-x.x (λ i. refl) c.loop-x.invariant in
    omega (
      arith,
      end,
      puts_length c.loop-x.invariant,
      c.loop-x-test.true,
      c.requires.room,
    )

pub loop-x-preserved : goal.loop-x-preserved
loop-x-preserved c =
    turn_on_lem (λ i. quad_bytes (get_or (state_in c.args.state.now).memory i 0)) c.loop-x.x c.loop-x.invariant
    (puts_as (ap quad_bytes (c.wide.ensures
    ∙ c.memory_at.ensures)) c.put_quad-next.ensures)

pub returns : goal.returns
returns c =
    let last : c.loop-x.x ≡ 16 = omega (arith, c.loop-x-test.false) in
    puts_as
    (ap (in_turn (λ i. quad_bytes (get_or (state_in c.args.state.now).memory i 0))) last)
    c.loop-x.invariant
