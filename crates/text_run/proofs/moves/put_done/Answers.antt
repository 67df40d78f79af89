-- `text_run::moves::put_done` meets its contract.
use mathlib.Core.Path.{ap}
use native.Mathlib.Omega.{arith}
use borrow.Author.Tests.{eq-eqb, ne_eqb}
use Rattle.laws.proofs.Bools.{first_of, second_of}
use Rattle.sheet_format.proofs.Laws.Put.{puts_as, puts_on}
use Rattle.machine_record.specs.Fields.{entry_in}
use Rattle.text_run.specs.Lanes.{entry_text}
use Rattle.text_run.proofs.moves.put_done.Goals as goal

pub returns-then-c-eq0 : goal.returns-then-c-eq0
returns-then-c-eq0 c =
    let text = first_of _ _ (eq-eqb _ _ c.if-c-eq0.true) in (
      omega (arith, c.put_text-i.ensures.behind, c.put_carried.ensures.0),
      puts_on c.put_text-i.ensures (puts_as text c.put_carried.ensures.1),
    )

pub returns : goal.returns
returns c =
    let entry = ap (λ k. entry_text (entry_in c.args.before.now k)) c.entry_from-from.ensures.0 in
    let text = second_of _ _ (ne_eqb _ _ c.if-c-eq0.false) in (
      omega (arith, c.put_text-i.ensures.behind, c.put_text-j.ensures.behind, c.put_entry.ensures.0),
      puts_on c.put_text-i.ensures
          (puts_as text (puts_on c.put_text-j.ensures (puts_as entry c.put_entry.ensures.1))),
    )
