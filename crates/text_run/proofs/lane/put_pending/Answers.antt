-- `text_run::lane::put_pending` meets its contract.
use Prim.Native.Nat.{◌+◌}
use mathlib.Core.Path.{ap}
use native.Mathlib.Omega.{arith}
use lib.Dec.{eqb}
use Rattle.file_format.specs.Fields.{byte}
use Rattle.sheet_format.proofs.Laws.Put.{puts_as, puts_on}
use Rattle.machine_record.specs.Fields.{entry_in}
use Rattle.text_run.specs.Lanes.{entry_text, mark_text}
use Rattle.text_run.proofs.lane.put_pending.Goals as goal

pub returns : goal.returns
returns c =
    let entry = ap (λ k. entry_text (entry_in c.args.s.now k)) c.entry_from-from.ensures.0 in
    let mark = ap (λ k. mark_text (eqb (byte c.args.s.now (k + 2)) 1) c.args.t) c.entry_from-from.ensures.0 in (
      omega (
        arith,
        c.put_one-j.ensures.0,
        c.put_text-k.ensures.behind,
        c.put_entry-m.ensures.0,
        c.put-end.ensures.behind,
        c.put_mark.ensures.0,
      ),
      puts_on
          (puts_on
          (puts_on (puts_on c.put_one-j.ensures.1 c.put_text-k.ensures)
          (puts_as entry c.put_entry-m.ensures.1))
          c.put-end.ensures)
          (puts_as mark c.put_mark.ensures.1),
    )
