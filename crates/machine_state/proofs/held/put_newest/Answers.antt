-- `machine_state::held::put_newest` meets its contract.
use Prim.Native.Nat.{suc, ◌<◌, ◌-◌}
use mathlib.Core.Path.{◌≡◌, ap, ◌∙◌}
use mathlib.Core.List.{[]}
use mathlib.Core.Option.{some}
use native.Mathlib.Omega.{arith}
use lib.ListN.{get_or}
use Rattle.machine_spec.specs.Entries.{append_entry}
use Rattle.machine_lane.specs.Lanes.{entry_of, with_pending}
use Rattle.machine_state.specs.States.{HEAD, VALUES, LENGTH, with_word, stored_in, lane_of}
use Rattle.machine_state.proofs.Laws.States.{became, came}
use Rattle.machine_state.proofs.Laws.Writes.{entry_set}
use Rattle.machine_state.proofs.held.put_newest.Goals as goal

pub returns : goal.returns
returns c =
    let n = c.args.lane.len - 1 in
    let last : n ≡ (stored_in (get_or c.args.state.now c.args.t [])).len = omega (arith, c.requires.1) in
    let size : c.args.lane.len ≡ suc n = omega (arith, c.requires.1) in
    let low : n < 64 = omega (arith, c.requires.2) in
    let written = c.put_word-3.ensures
    ∙ ap (λ x. with_word x c.args.t HEAD LENGTH c.args.lane.len) (c.put_word-2.ensures
    ∙ ap (λ x. with_word x c.args.t VALUES n (get_or c.args.lane.values n 0)) c.put_word.ensures) in
    became (ap (λ m. with_pending (lane_of c.args.state.now c.args.t)
    (append_entry (lane_of c.args.state.now c.args.t).pending
    (some (entry_of (get_or c.args.lane.cells m 0) (get_or c.args.lane.values m 0))))) last)
    (came written (entry_set c.args.state.now c.args.t c.requires.0 n _ _ _ last size low))
