-- `machine_record::state::write_state` meets its contract. Behind the head are the lanes passed.
use mathlib.Core.Path.{◌≡◌, ap}
use native.Mathlib.Omega.{arith}
use Rattle.sheet_format.specs.Put.{in_turn}
use Rattle.sheet_format.proofs.Laws.Put.{puts_as}
use Rattle.machine_spec.specs.State.{lane_at}
use Rattle.machine_state.specs.States.{state_in}
use Rattle.machine_record.specs.Lanes.{state_lane}
use Rattle.sheet_format.proofs.Laws.Turn.{turn_none, turn_on_lem}
use Rattle.machine_record.proofs.Laws.Lanes.{lane_room, record_put}
use Rattle.machine_record.proofs.state.write_state.Goals as goal

pub write_head-next-requires : goal.write_head-next-requires
write_head-next-requires c = record {
  room = omega (arith, c.requires.room);
  sized = c.requires.sized;
  small =
      c.requires.small.locks;
}

pub loop-t-init : goal.loop-t-init
loop-t-init c = turn_none _

pub write_lane_at-next-requires : goal.write_lane_at-next-requires
write_lane_at-next-requires c =
    let room = lane_room c.args.finished c.args.done c.args.waited (state_in c.args.state.now) c.loop-t.t
    c.loop-t-test.true c.requires.room
    c.write_head-next.ensures c.loop-t.invariant in
    record {
      room = room;
      lane = record { lane = c.loop-t-test.true; sized = c.requires.sized };
      small =
          c.requires.small.entries;
    }

pub loop-t-preserved : goal.loop-t-preserved
loop-t-preserved c =
    turn_on_lem (λ k. state_lane (lane_at (state_in c.args.state.now) k)) c.loop-t.t c.loop-t.invariant
    c.write_lane_at-next.ensures

pub returns : goal.returns
returns c =
    let state = state_in c.args.state.now in
    let last : c.loop-t.t ≡ 4 = omega (arith, c.loop-t-test.false) in
    record_put c.args.finished c.args.done c.args.waited state c.requires.room
    c.write_head-next.ensures
    (puts_as (ap (in_turn (λ k. state_lane (lane_at state k))) last) c.loop-t.invariant)
