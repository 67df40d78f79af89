-- `file_locks::find_records` meets its contract.
use Prim.Native.Nat.{◌+◌, ◌-◌, ◌*◌}
use mathlib.Core.Path.{sym, ap, subst, ◌∙◌}
use native.Mathlib.Omega.{arith}
use mathlib.Core.List.{List}
use Rattle.file_format.specs.declared.accepted.Op.{Op}
use lib.ListN.{take, drop}
use Rattle.laws.proofs.Parts.{take_rest, part_length}
use Rattle.file_format.specs.Held.{record_at}
use Rattle.file_format.specs.Rising.{descent_position}
use Rattle.file_locks.specs.Lanes.{LaneIn, Told, PositionsOf}
use Rattle.file_locks.proofs.Laws.Pass.{empty_clean}
use Rattle.file_locks.proofs.find_records.Goals as goal
use Rattle.file_locks.proofs.find_records.Goals.{After-find_positions}

pub returns-then-end-from : goal.returns-then-end-from
returns-then-end-from c = λ ops lane. empty_clean ops (omega (arith, lane.held.count, c.if-end-from.true))

pub find_positions-requires : goal.find_positions-requires
find_positions-requires c = (
  omega (arith, c.requires),
  omega (arith, c.requires, part_length c.args.rows.now (16 + 8 * c.args.from) (omega (arith, c.requires))),
)

-- what is found by positions
found : (g : After-find_positions) (ops : List Op)
    → LaneIn (drop (16 + 8 * g.args.from) g.args.rows.now) (g.args.end - g.args.from) ops
    → PositionsOf ops g.find_positions.result
found g ops lane =
    g.find_positions.ensures ops
    (subst (λ x. LaneIn x (g.args.end - g.args.from) ops) (sym (take_rest (16 + 8 * g.args.from) g.args.rows.now)) lane)

pub returns-in-Err : goal.returns-in-Err
returns-in-Err c =
    let rs = take (c.args.end - c.args.from) (drop c.args.from c.args.order.now) in
    λ ops lane.
    let is = subst (PositionsOf ops) c.in-Err.is (found (goal.at.returns-in-Err c).After-find_positions ops lane) in
    (c.record_at.ensures ∙ ap (record_at rs) is.0, is.1)

pub returns-in-Ok-Some : goal.returns-in-Ok-Some
returns-in-Ok-Some c =
    let rs = take (c.args.end - c.args.from) (drop c.args.from c.args.order.now) in
    λ ops lane.
    let is = subst (PositionsOf ops) c.in-Ok-Some.is
    (found (goal.at.returns-in-Ok-Some c).After-find_positions ops lane) in
    let told = subst (Told (λ x. x) (descent_position ops)) c.in-Ok-Some.field-0-is is.1 in
    (is.0, (c.record_at-in-Ok-Some.ensures ∙ ap (record_at rs) told.0, told.1))

pub returns-in-Ok-None : goal.returns-in-Ok-None
returns-in-Ok-None c =
    λ ops lane.
    let is = subst (PositionsOf ops) c.in-Ok-None.is
    (found (goal.at.returns-in-Ok-None c).After-find_positions ops lane) in
    (is.0, subst (Told (λ x. x) (descent_position ops)) c.in-Ok-None.field-0-is is.1)
