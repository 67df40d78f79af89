-- `machine_moves::run::run` meets its contract.
use Rattle.machine_course.specs.Returned.{moves_of}
use Rattle.machine_moves.proofs.run.run.Goals as goal

pub returns : goal.returns
returns c =
    c.finish.ensures c.args.file.now c.args.machine (moves_of c.args.moves.now) c.begin-x.new.rows
    (c.run_moves-y.ensures c.args.file.now c.args.machine c.begin-x.ensures)
