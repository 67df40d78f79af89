-- `machine_state::held::issue` meets its contract.
use Prim.Native.Nat.{suc}
use mathlib.Core.Path.{◌≡◌, ap, ap₂, sym, ◌∙◌}
use mathlib.Core.List.{[]}
use mathlib.Core.Option.{some}
use native.Mathlib.Omega.{arith}
use lib.ListN.{get_or}
use Rattle.machine_spec.specs.Entries.{append_entry}
use Rattle.machine_lane.specs.declared.lane.Lane.{Lane}
use Rattle.machine_lane.specs.Lanes.{placed_at, with_pending, entry_of}
use Rattle.machine_state.specs.States.{stored_in, lane_of}
use Rattle.machine_state.proofs.Laws.States.{became, then_became, pending_count_lem}
use Rattle.machine_state.proofs.held.issue.Goals as goal

pub put_newest-requires : goal.put_newest-requires
put_newest-requires c =
    let more = c.appended.ensures.len ∙ ap (λ (l : Lane). suc l.len) c.take.ensures in
    let few = pending_count_lem c.args.state.now c.args.t c.requires.0 in
    (c.requires.0, more, omega (arith, more, few, c.requires.1))

pub returns : goal.returns
returns c =
    let n = (stored_in (get_or c.args.state.now c.args.t [])).len in
    let own : c.take.result.len ≡ n = ap (λ (l : Lane). l.len) c.take.ensures in
    let cell = ap (λ m. get_or c.appended.result.cells m 0) (sym own) ∙ c.appended.ensures.cell in
    let value = ap (λ m. get_or c.appended.result.values m 0) (sym own) ∙ c.appended.ensures.value in
    let put = became (ap (λ e. with_pending (lane_of c.args.state.now c.args.t)
    (append_entry (lane_of c.args.state.now c.args.t).pending (some e)))
    (ap₂ entry_of cell value)) c.put_newest.ensures in
    then_became put (became (ap (λ l. placed_at l c.args.next) put.lane) c.go.ensures)
