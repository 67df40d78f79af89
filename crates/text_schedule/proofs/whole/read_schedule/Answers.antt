-- `text_schedule::whole::read_schedule` meets its contract.
use mathlib.Core.Path.{sym, ◌∙◌}
use Rattle.text_schedule.proofs.Laws.Read.{read_malformed, read_long, read_moves}
use Rattle.text_schedule.proofs.whole.read_schedule.Goals as goal

pub returns-in-Some : goal.returns-in-Some
returns-in-Some c = read_malformed _ _ c.in-Some.ensures

pub returns-then-moves-size : goal.returns-then-moves-size
returns-then-moves-size c =
    read_long _ _ (sym c.in_default.is ∙ c.malformed.ensures) c.lay_moves-size.ensures c.if-moves-size.true

pub returns : goal.returns
returns c =
    read_moves _ _ (sym c.in_default.is ∙ c.malformed.ensures) c.lay_moves-size.ensures c.if-moves-size.false
    c.lay_moves.ensures
