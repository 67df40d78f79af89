-- `text_run::lane::put_lane` meets its contract. What is written behind its line are the first i entries.
use Prim.Native.Nat.{◌+◌}
use mathlib.Core.Path.{◌≡◌, ap, ◌∙◌}
use native.Mathlib.Omega.{arith}
use Rattle.file_format.specs.Fields.{word}
use Rattle.sheet_format.specs.Put.{in_turn}
use Rattle.sheet_format.proofs.Laws.Put.{puts_as, puts_on}
use Rattle.sheet_format.proofs.Laws.Turn.{turn_none, turn_on_lem}
use Rattle.machine_record.specs.Fields.{fields_in}
use Rattle.text_run.specs.Lanes.{pending_line, lane_text}
use Rattle.text_run.proofs.lane.put_lane.Goals as goal

pub loop-i-init : goal.loop-i-init
loop-i-init c = (omega arith, turn_none _)

pub put_pending-at-requires : goal.put_pending-at-requires
put_pending-at-requires c =
    omega (arith, c.requires, c.put_lane_line-at.ensures.0, c.loop-i.invariant.0, c.word_at-count.ensures.1)

pub loop-i-preserved : goal.loop-i-preserved
loop-i-preserved c = (
  omega (arith, c.put_pending-at.ensures.0, c.loop-i.invariant.0),
  turn_on_lem (pending_line (fields_in c.args.s.now) c.args.t) c.loop-i.i c.loop-i.invariant.1
      c.put_pending-at.ensures.1,
)

pub returns : goal.returns
unfolding lane_text
returns c =
    let all : c.loop-i.i ≡ c.word_at-count.result = omega arith in
    let last = all ∙ c.word_at-count.ensures.0 ∙ ap (λ k. word c.args.s.now (k + 2)) c.lane_from.ensures.0 in (
      omega (arith, c.put_lane_line-at.ensures.0, c.loop-i.invariant.0, all, c.word_at-count.ensures.1),
      puts_on c.put_lane_line-at.ensures.1
          (puts_as (ap (in_turn (pending_line (fields_in c.args.s.now) c.args.t)) last) c.loop-i.invariant.1),
    )
