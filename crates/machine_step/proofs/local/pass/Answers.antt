-- `machine_step::local::pass` meets its contract.
use Rattle.std.proofs.Common.{refl, sym, ap, ◌∙◌}
use Rattle.machine_lane.specs.Lanes.{placed_at}
use Rattle.machine_lane.proofs.Laws.Lanes.{lane_eq}
use Rattle.machine_state.proofs.Laws.States.{became, then_became}
use Rattle.machine_step.proofs.Laws.Turns.{kept, took_passes}
use Rattle.machine_step.proofs.local.pass.Goals as goal

pub returns : goal.returns
returns c =
    let test = sym c.may_pass.ensures ∙ c.if-not-may_pass.false in
    let gone = ap (λ l. placed_at l c.next_position-next.result) c.leave_mark.ensures.lane
    ∙ lane_eq c.next_position-next.ensures refl refl refl in
    λ f. rw test (took_passes c.args.state.now c.args.state.now _ c.args.t _ _
    (kept c.args.state.now c.requires.lies.sized) (then_became c.leave_mark.ensures (became gone c.go.ensures)))
