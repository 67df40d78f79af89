-- `machine_record::state::write_lane_at` meets its contract.
use Prim.Native.Nat.{◌≤◌, ◌<◌}
use mathlib.Core.Path.{sym, ap, subst, ◌∙◌}
use native.Mathlib.Omega.{arith}
use Rattle.sheet_format.proofs.Laws.Put.{puts_as}
use Rattle.machine_lane.specs.declared.lane.Lane.{Lane as Stored}
use Rattle.machine_lane.specs.Lanes.{lane_in}
use Rattle.machine_state.specs.States.{count_of}
use Rattle.machine_record.specs.Lanes.{state_lane}
use Rattle.machine_record.specs.SmallCells.{SmallCells}
use Rattle.machine_record.proofs.Laws.Lanes.{there_bytes, there_small, none_bytes}
use Rattle.machine_record.proofs.state.write_lane_at.Goals as goal

pub write_lane-requires : goal.write_lane-requires
write_lane-requires c =
    let here : c.args.t < count_of c.args.state.now 0 = omega
    (arith, c.if-t-wide.true, c.wide.ensures) in record {
      room = c.requires.room;
      small = subst (λ (l : Stored). SmallCells l.cells l.len) (sym c.take.ensures)
          (there_small c.args.state.now c.args.t c.requires.lane here c.requires.small);
    }

pub returns-then-t-wide : goal.returns-then-t-wide
returns-then-t-wide c =
    let here : c.args.t < count_of c.args.state.now 0 = omega (
      arith,
      c.if-t-wide.true,
      c.wide.ensures,
    ) in
    puts_as (ap (λ (l : Stored). state_lane (lane_in l)) c.take.ensures
    ∙ there_bytes c.args.state.now c.args.t c.requires.lane here) c.write_lane.ensures

pub write_lane-requires-2 : goal.write_lane-requires-2
write_lane-requires-2 c = record { room = c.requires.room; small = λ i l. absurd (omega arith) }

pub returns : goal.returns
returns c =
    let past : count_of c.args.state.now 0 ≤ c.args.t = omega
    (arith, c.if-t-wide.false, c.wide.ensures) in
    puts_as (none_bytes c.args.state.now c.args.t c.requires.lane past)
    c.write_lane-2.ensures
