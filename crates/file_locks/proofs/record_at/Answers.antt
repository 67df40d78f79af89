-- `file_locks::record_at` meets its contract.
use mathlib.Core.List.{◌∷◌}
use mathlib.Core.Path.{sym, ap, ◌∙◌}
use lib.ListN.{get_or, drop}
use Rattle.file_locks.proofs.Laws.Held.{record_is, record_cut}
use Rattle.file_locks.proofs.record_at.Goals as goal
use borrow.Author.Rules.{rules}

pub returns-then-i-eq0 : goal.returns-then-i-eq0
returns-then-i-eq0 c =
    sym (ap (λ i. get_or (0 ∷ drop c.args.from c.args.order.now) i 0) c.if-i-eq0.true)
    ∙ record_cut c.args.order.now c.args.from c.args.n c.args.x c.requires (search rules)

pub returns : goal.returns
returns c =
    c.from.ensures ∙ record_is c.args.order.now c.args.from _ c.if-i-eq0.false
    ∙ record_cut c.args.order.now c.args.from c.args.n c.args.x c.requires (search rules)
