-- `file_rows::chain::write_chain` meets its contract. What is written is the rows of the records passed.
use Prim.Native.Nat.{ℕ, ◌+◌, ◌*◌, ◌-◌, ◌<◌}
use mathlib.Core.Path.{sym, ap, subst, ◌∙◌}
use native.Mathlib.Omega.{arith}
use lib.ListN.{take, drop}
use Rattle.file_format.specs.Fields.{byte, target}
use Rattle.file_format.specs.Accepted.{ops_of}
use Rattle.file_format.proofs.Laws.Stored.{ops_from_length}
use Rattle.file_chains.specs.Ordered.{landing_in}
use Rattle.sheet_format.proofs.Laws.Put.{puts_as, puts_end}
use Rattle.file_rows.specs.Records.{record_row, RecordIn}
use Rattle.file_rows.proofs.Laws.Lane.{row_put, rows_all}
use Rattle.file_rows.proofs.Laws.Records.{in_order, counted_in, record_in_lem, row_in}
use Rattle.file_rows.proofs.chain.write_chain.Goals as goal

pub put_record-requires-clause-known : goal.put_record-requires-clause-known
put_record-requires-clause-known c =
    subst (RecordIn c.args.s.now c.args.place.now c.args.begin (c.args.end - c.args.begin)) (sym c.from.ensures)
    (record_in_lem c.requires.lane c.loop-p.p c.loop-p-test.true)

pub loop-p-preserved : goal.loop-p-preserved
loop-p-preserved c =
    let n = c.args.end - c.args.begin in
    let records = take n (drop c.args.begin c.args.order.now) in
    let all = ops_from_length c.args.s.now 0 records in
    let small : (i : ℕ) → byte c.args.s.now i < 256 = λ i. omega (arith, c.type_inv.s i) in
    let same = row_in c.requires.lane small c.loop-p.p c.loop-p-test.true
    ∙ ap (λ r. record_row c.args.s.now r (landing_in c.args.place.now c.args.begin n (target c.args.s.now r)))
    (sym c.from.ensures) in
    row_put (ops_of c.args.s.now records) (16 + 8 * c.args.begin) c.loop-p.p (16 + 8 * (c.args.begin + c.loop-p.p))
    c.loop-p.invariant (omega (arith, all, counted_in c.requires.lane, c.loop-p-test.true)) (omega arith) same
    c.put_record.ensures

pub returns : goal.returns
returns c =
    let records = take (c.args.end - c.args.begin) (drop c.args.begin c.args.order.now) in
    let all = ops_from_length c.args.s.now 0 records in
    puts_end
    (puts_as (rows_all (ops_of c.args.s.now records) c.loop-p.p (omega (
      arith,
      all,
      counted_in c.requires.lane,
      c.loop-p-test.false,
    ))) c.loop-p.invariant)
    (omega (arith, in_order c.requires.lane, c.loop-p.auto.p-end, c.loop-p-test.false))
