-- `text_run::whole::run_line` meets its contract.
use mathlib.Core.Path.{refl}
use native.Mathlib.Omega.{arith}
use Rattle.sheet_format.proofs.Laws.Put.{puts_as}
use Rattle.text_run.proofs.Laws.Lines.{move_inside, line_of}
use Rattle.text_run.proofs.whole.run_line.Goals as goal

pub bounds-moves-n : goal.bounds-moves-n
bounds-moves-n c = omega (arith, move_inside c.args.moves.now c.requires)

pub bounds-moves-n-2 : goal.bounds-moves-n-2
bounds-moves-n-2 c = omega (arith, move_inside c.args.moves.now c.requires)

pub returns : goal.returns
returns c =
    (c.tell_move.ensures.0, puts_as (line_of c.args.moves.now c.requires refl) c.tell_move.ensures.1)
