-- `machine_course::fold::fold_move` meets its contract.
use native.Mathlib.Omega.{arith}
use Rattle.machine_course.proofs.Laws.Legal.{none_by, some_by}
use Rattle.machine_spec.specs.Schedule.{move}
use Rattle.machine_course.proofs.Laws.Folds.{still_refused, lane_few, can_move, lies_inside, code_stops}
use Rattle.machine_course.proofs.Laws.Folds.{code_moves}
use Rattle.machine_course.proofs.fold.fold_move.Goals as goal

pub returns-then-is_some : goal.returns-then-is_some
returns-then-is_some c =
    λ s m mvs so.
    still_refused so (move c.args.lane c.args.choice) (some_by c.is_some.ensures c.if-is_some.true)

pub returns-then-not-legal_move : goal.returns-then-not-legal_move
returns-then-not-legal_move c =
    λ s m mvs so.
    code_stops so (move c.args.lane c.args.choice) (none_by c.is_some.ensures c.if-is_some.false) c.limit_of.ensures
    c.wide.ensures
    c.legal_move.ensures c.if-not-legal_move.true c.start.ensures c.stop.ensures

pub bounds-x-t : goal.bounds-x-t
bounds-x-t c =
    omega (
      arith,
      lane_few c.requires.stands (move c.args.lane c.args.choice) (none_by c.is_some.ensures c.if-is_some.false)
          c.limit_of.ensures
          c.wide.ensures c.legal_move.ensures c.if-not-legal_move.false,
    )

pub bounds-x-t-2 : goal.bounds-x-t-2
bounds-x-t-2 c =
    omega (
      arith,
      lane_few c.requires.stands (move c.args.lane c.args.choice) (none_by c.is_some.ensures c.if-is_some.false)
          c.limit_of.ensures
          c.wide.ensures c.legal_move.ensures c.if-not-legal_move.false,
    )

pub move_lane-moved-requires : goal.move_lane-moved-requires
move_lane-moved-requires c =
    let mv = move c.args.lane c.args.choice in (
      can_move c.requires.stands mv (none_by c.is_some.ensures c.if-is_some.false) c.limit_of.ensures c.wide.ensures
          c.legal_move.ensures
          c.if-not-legal_move.false,
      lies_inside c.requires.stands mv (none_by c.is_some.ensures c.if-is_some.false) c.limit_of.ensures
          c.wide.ensures c.legal_move.ensures
          c.if-not-legal_move.false,
    )

pub returns : goal.returns
returns c =
    λ s m mvs so.
    code_moves so (move c.args.lane c.args.choice) (none_by c.is_some.ensures c.if-is_some.false) c.limit_of.ensures
    c.wide.ensures
    c.legal_move.ensures c.if-not-legal_move.false c.move_lane-moved.ensures c.count.ensures
