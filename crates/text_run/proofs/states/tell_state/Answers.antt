-- `text_run::states::tell_state` meets its contract. What is written behind the head are the first t lanes.
use mathlib.Core.Path.{◌≡◌, ap, ◌∙◌}
use native.Mathlib.Omega.{arith}
use Rattle.sheet_format.specs.Put.{in_turn}
use Rattle.sheet_format.proofs.Laws.Put.{puts_as, puts_on}
use Rattle.sheet_format.proofs.Laws.Turn.{turn_none, turn_on_lem}
use Rattle.machine_record.specs.Fields.{fields_in}
use Rattle.text_run.specs.Lanes.{lane_text}
use Rattle.text_run.specs.States.{text_by}
use Rattle.text_run.proofs.states.tell_state.Goals as goal

pub loop-t-init : goal.loop-t-init
loop-t-init c = (omega arith, turn_none _)

pub put_lane-at-requires : goal.put_lane-at-requires
put_lane-at-requires c = omega (arith, c.put_head-at.ensures.0, c.loop-t.invariant.0)

pub loop-t-preserved : goal.loop-t-preserved
loop-t-preserved c = (
  omega (arith, c.put_lane-at.ensures.0, c.loop-t.invariant.0),
  turn_on_lem (lane_text (fields_in c.args.record.now)) c.loop-t.t c.loop-t.invariant.1 c.put_lane-at.ensures.1,
)

pub returns : goal.returns
unfolding text_by
returns c =
    let all : c.loop-t.t ≡ c.byte_at-lanes.result = omega arith in
    puts_on c.put_head-at.ensures.1
    (puts_as (ap (in_turn (lane_text (fields_in c.args.record.now))) (all ∙ c.byte_at-lanes.ensures))
    c.loop-t.invariant.1)
