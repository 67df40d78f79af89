-- `text_run::lane::put_mark` meets its contract.
use mathlib.Core.Path.{sym, ◌∙◌}
use native.Mathlib.Omega.{arith}
use borrow.Author.Tests.{eq-eqb}
use Rattle.laws.proofs.Bools.{first_of}
use Rattle.sheet_format.proofs.Laws.Put.{puts_as, puts_on}
use Rattle.text_run.proofs.lane.put_mark.Goals as goal

pub returns-then-byte_at-eq1 : goal.returns-then-byte_at-eq1
returns-then-byte_at-eq1 c =
    let text = first_of _ _ (eq-eqb _ _ (sym c.byte_at.ensures ∙ c.if-byte_at-eq1.true)) in (
      omega (arith, c.put_one-i.ensures.0, c.put_text.ensures.behind),
      puts_as text (puts_on c.put_one-i.ensures.1 c.put_text.ensures),
    )
