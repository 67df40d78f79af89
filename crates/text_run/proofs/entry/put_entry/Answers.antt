-- `text_run::entry::put_entry` meets its contract.
use mathlib.Core.Path.{sym, ◌∙◌}
use native.Mathlib.Omega.{arith}
use Rattle.sheet_format.proofs.Laws.Put.{puts_as, puts_on}
use Rattle.text_run.proofs.Laws.Entry.{entry_store}
use Rattle.text_run.proofs.entry.put_entry.Goals as goal

pub returns-then-byte_at-eq1 : goal.returns-then-byte_at-eq1
returns-then-byte_at-eq1 c =
    let text =
    entry_store c.args.s.now c.args.from c.byte_at-place.ensures
    (sym c.byte_at.ensures ∙ c.if-byte_at-eq1.true) c.quad_at.ensures in (
      omega (arith, c.put_one-i.ensures.0, c.put_one.ensures.0),
      puts_as text (puts_on c.put_one-i.ensures.1 c.put_one.ensures.1),
    )
