-- `file_locks::suspicious_lane` meets its contract.
use Prim.Native.Nat.{◌+◌, ◌-◌, ◌*◌}
use mathlib.Core.Path.{sym, subst}
use native.Mathlib.Omega.{arith}
use Rattle.laws.proofs.Parts.{take_rest, part_length}
use Rattle.file_locks.specs.Lanes.{LaneIn}
use Rattle.file_locks.proofs.Laws.Pass.{empty_clean}
use Rattle.file_locks.proofs.suspicious_lane.Goals as goal

pub returns-then-end-from : goal.returns-then-end-from
returns-then-end-from c =
    λ e ops lane. empty_clean ops (omega (arith, lane.held.count, c.if-end-from.true))

pub suspicious-requires : goal.suspicious-requires
suspicious-requires c = (
  omega (arith, c.requires),
  omega (arith, c.requires, part_length c.args.rows.now (16 + 8 * c.args.from) (omega (arith, c.requires))),
)

pub returns : goal.returns
returns c =
    λ e ops lane. c.suspicious.ensures e ops
    (subst (λ x. LaneIn x (c.args.end - c.args.from) ops) (sym (take_rest (16 + 8 * c.args.from) c.args.rows.now)) lane)
