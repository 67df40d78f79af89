-- `file_rows::whole::write_lanes` meets its contract. What is written is the rows of the lanes passed.
use Prim.Native.Nat.{◌+◌, suc}
use mathlib.Core.Path.{◌≡◌, refl, sym, ap}
use native.Mathlib.Omega.{arith}
use lib.ListN.{get_or}
use Rattle.file_chains.specs.Ordered.{begin_of}
use Rattle.sheet_format.proofs.Laws.Put.{puts_as}
use Rattle.sheet_format.proofs.Laws.Turn.{turn_none, turn_on_lem}
use Rattle.sheet_rows.specs.Lanes.{op_rows}
use Rattle.file_rows.specs.Chains.{chain_at}
use Rattle.file_rows.specs.Records.{LaneIn}
use Rattle.file_rows.proofs.Laws.Records.{ops_in}
use borrow.Author.Rules.{rules}
use Rattle.file_rows.proofs.whole.write_lanes.Goals as goal

pub loop-end-init : goal.loop-end-init
loop-end-init c = (refl, turn_none _)

pub loop-end-preserved : goal.loop-end-preserved
loop-end-preserved c =
    let t = c.loop-end.end-index in
    let lane : LaneIn c.args.s.now c.args.order.now c.args.place.now c.loop-end.begin (get_or c.args.ends.now t 0)
    = search rules in
    let one : t + 1 ≡ suc t = omega arith in (
      sym (ap (begin_of c.args.ends.now) one),
      turn_on_lem (chain_at c.args.s.now) t c.loop-end.invariant.1
          (puts_as (ap op_rows (ops_in lane)) c.write_chain.ensures),
    )
