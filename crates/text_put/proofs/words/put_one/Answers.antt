-- `text_put::words::put_one` meets its contract.
use native.Mathlib.Omega.{arith}
use lib.ListN.{length-append}
use Rattle.text_put.specs.Decimal.{decimal}
use Rattle.sheet_format.proofs.Laws.Put.{puts_on}
use Rattle.text_put.proofs.Laws.Decimal.{decimal_few}
use Rattle.text_put.proofs.words.put_one.Goals as goal

pub returns : goal.returns
returns c =
    let all = puts_on c.put_text-i.ensures c.put_decimal.ensures in
    let few = decimal_few c.args.b (omega arith) in
    (omega (arith, few, all.behind, length-append c.args.name.now (decimal c.args.b)), all)
