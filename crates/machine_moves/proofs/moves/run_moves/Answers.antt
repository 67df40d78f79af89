-- `machine_moves::moves::run_moves` meets its contract.
use Rattle.std.proofs.Common.{add-one, arith}
use lib.Seq.{take_all}
use Rattle.machine_moves.proofs.Laws.Schedules.{made_more}
use Rattle.machine_moves.proofs.moves.run_moves.Goals as goal

pub loop-m-preserved : goal.loop-m-preserved
loop-m-preserved c =
    rw add-one (made_more c.args.rows.now c.args.ms.now c.loop-m.m-index _ (omega arith) c.loop-m.invariant
    c.fold_move-x.ensures)

pub returns : goal.returns
returns c = rw (take_all c.loop-m.m-index c.args.ms.now (omega arith)) at c.loop-m.invariant
