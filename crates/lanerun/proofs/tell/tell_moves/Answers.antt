-- `lanerun::tell::tell_moves` meets its contract: what is told for n is move n of the schedule, on what the moves
-- before it came to.
use Rattle.lanerun.proofs.Laws.Told.{can_record, can_move, moved, between, one_more}
use Rattle.lanerun.proofs.tell.tell_moves.Goals as goal

pub loop-n-init : goal.loop-n-init
loop-n-init g c =
    let start = c.begin-x.ensures in
    record { stands = start; recorded = c.record_of-before.ensures _ _ _ _ start }

pub fold_move-x-requires : goal.fold_move-x-requires
fold_move-x-requires g c = can_move c.args.moves.now c.requires.few c.loop-n.invariant

pub record_of-after-requires : goal.record_of-after-requires
record_of-after-requires g c =
    can_record (moved c.args.moves.now c.requires.few c.loop-n.invariant c.loop-n-test.true c.fold_move-x.ensures)

pub say_line-requires : goal.say_line-requires
say_line-requires g c =
    let b = c.args.moves.now in
    let next = moved b c.requires.few c.loop-n.invariant c.loop-n-test.true c.fold_move-x.ensures in
    between b c.requires.few c.loop-n.invariant c.loop-n-test.true c.fold_move-x.ensures
    (c.record_of-after.ensures _ _ _ _ next) c.requires.runs

pub loop-n-preserved : goal.loop-n-preserved
loop-n-preserved g c =
    let b = c.args.moves.now in
    let next = moved b c.requires.few c.loop-n.invariant c.loop-n-test.true c.fold_move-x.ensures in
    one_more b c.requires.few c.loop-n.invariant c.loop-n-test.true c.fold_move-x.ensures
    (c.record_of-after.ensures _ _ _ _ next)
