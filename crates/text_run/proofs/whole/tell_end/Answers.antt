-- `text_run::whole::tell_end` meets its contract.
use native.Mathlib.Omega.{arith}
use lib.ListN.{replicate}
use Rattle.std.proofs.lemmas.Result.{err_from_is_err_and}
use Rattle.text_run.proofs.Laws.Ends.{end_refused, end_wrote}
use Rattle.text_run.proofs.whole.tell_end.Goals as goal

pub returns-in_err-run_file : goal.returns-in_err-run_file
returns-in_err-run_file c =
    let p = err_from_is_err_and c.from_residual.result c.from_residual.ensures.1 in
    rw (p.1, p.2)
    (end_refused c.args.machine c.args.file.now c.args.moves.now (replicate 2280 0) (omega arith) c.args.out.now
    c.in_err-run_file.ensures)

pub returns : goal.returns
returns c =
    end_wrote c.args.machine c.args.file.now c.args.moves.now (replicate 2280 0) (omega arith) c.requires
    c.args.out.now c.in_ok-run_file.ensures c.tell_state.ensures
