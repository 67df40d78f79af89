-- `machine_record::put::put_table` meets its contract. What is written is the words passed.
use mathlib.Core.Path.{◌≡◌, refl, ap}
use native.Mathlib.Omega.{arith}
use lib.ListN.{get_or}
use Rattle.sheet_format.specs.Bytes.{quad_bytes}
use Rattle.sheet_format.specs.Put.{in_turn}
use Rattle.sheet_format.proofs.Laws.Put.{puts_as, puts_length}
use Rattle.sheet_format.proofs.Laws.Turn.{turn_none, turn_on_lem, turn_end}
use Rattle.machine_record.proofs.put.put_table.Goals as goal

pub loop-i-init : goal.loop-i-init
loop-i-init c = turn_none _

pub put_quad-next-requires : goal.put_quad-next-requires
put_quad-next-requires c =
    let end = turn_end (λ i. quad_bytes (get_or c.args.words.now i 0)) 4 c.loop-i.i (λ j. refl) c.loop-i.invariant in
    omega (arith, end, puts_length c.loop-i.invariant, c.loop-i-test.true)

pub loop-i-preserved : goal.loop-i-preserved
loop-i-preserved c =
    turn_on_lem (λ i. quad_bytes (get_or c.args.words.now i 0)) c.loop-i.i c.loop-i.invariant
    (puts_as (ap quad_bytes c.word_at.ensures) c.put_quad-next.ensures)

pub returns : goal.returns
returns c =
    let last : c.loop-i.i ≡ c.args.n = omega (arith, c.loop-i-test.false) in
    puts_as (ap (in_turn (λ i. quad_bytes (get_or c.args.words.now i 0))) last) c.loop-i.invariant
