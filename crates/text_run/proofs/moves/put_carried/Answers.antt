-- `text_run::moves::put_carried` meets its contract.
use native.Mathlib.Omega.{arith}
use Rattle.sheet_format.proofs.Laws.Put.{puts_as, puts_on}
use Rattle.machine_record.specs.Fields.{fields_in}
use Rattle.text_run.proofs.Laws.Moves.{carried_row}
use Rattle.text_run.proofs.moves.put_carried.Goals as goal

pub returns : goal.returns
returns c =
    let text =
    carried_row c.args.machine c.args.rows.now (fields_in c.args.before.now) (fields_in c.args.after.now) c.args.t
    c.next_row.ensures.0 c.row_at-row.ensures in (
      omega (arith, c.put_named-i.ensures.0, c.put_loaded.ensures.0),
      puts_as text (puts_on c.put_named-i.ensures.1 c.put_loaded.ensures.1),
    )
