-- `text_run::states::put_head` meets its contract.
use mathlib.Core.Path.{ap₂}
use mathlib.Core.List.{◌++◌}
use native.Mathlib.Omega.{arith}
use Rattle.sheet_format.proofs.Laws.Put.{puts_as, puts_on}
use Rattle.machine_record.specs.Fields.{fields_in}
use Rattle.text_run.specs.States.{counts_line, finished_line, memory_line, locks_line}
use Rattle.text_run.proofs.states.put_head.Goals as goal

pub returns : goal.returns
returns c =
    let f = fields_in c.args.s.now in
    let text =
    ap₂ (λ l k. counts_line f ++ finished_line f ++ memory_line f l ++ locks_line f k) c.byte_at.ensures
    c.byte_at-2.ensures in (
      omega (
        arith,
        c.put_counts-i.ensures.0,
        c.put_finished-j.ensures.0,
        c.put_numbers_line-k.ensures.0,
        c.put_numbers_line.ensures.0,
      ),
      puts_as text
          (puts_on
          (puts_on (puts_on c.put_counts-i.ensures.1 c.put_finished-j.ensures.1)
          c.put_numbers_line-k.ensures.1)
          c.put_numbers_line.ensures.1),
    )
