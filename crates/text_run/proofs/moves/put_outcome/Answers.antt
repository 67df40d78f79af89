-- `text_run::moves::put_outcome` meets its contract.
use mathlib.Core.Path.{sym, ◌∙◌}
use native.Mathlib.Omega.{arith}
use borrow.Author.Tests.{eq-eqb, ne_eqb}
use Rattle.laws.proofs.Bools.{first_of, second_of}
use Rattle.sheet_format.proofs.Laws.Put.{puts_as}
use Rattle.text_run.proofs.moves.put_outcome.Goals as goal

pub returns-then-quad_at : goal.returns-then-quad_at
returns-then-quad_at c =
    let same = sym c.quad_at.ensures ∙ c.if-quad_at.true ∙ c.quad_at-2.ensures in
    (omega (arith, c.put_text.ensures.behind), puts_as (first_of _ _ (eq-eqb _ _ same)) c.put_text.ensures)

pub returns : goal.returns
returns c =
    let other = ne_eqb _ _ (λ e. c.if-quad_at.false (c.quad_at.ensures ∙ e ∙ sym c.quad_at-2.ensures)) in
    (c.put_done.ensures.0, puts_as (second_of _ _ other) c.put_done.ensures.1)
