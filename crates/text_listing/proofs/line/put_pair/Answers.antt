-- `text_listing::line::put_pair` meets its contract.
use native.Mathlib.Omega.{arith}
use Rattle.sheet_format.proofs.Laws.Put.{puts_on}
use Rattle.text_put.proofs.Laws.Decimal.{decimal_few}
use Rattle.text_listing.proofs.line.put_pair.Goals as goal

pub put-j-requires : goal.put-j-requires
put-j-requires c =
    omega (arith, c.put_decimal-i.ensures.behind, decimal_few c.args.a (omega arith), c.requires)

pub put_decimal-requires : goal.put_decimal-requires
put_decimal-requires c =
    omega (
      arith,
      c.put-j.ensures.behind,
      c.put_decimal-i.ensures.behind,
      decimal_few c.args.a (omega arith),
      c.requires,
    )

pub returns : goal.returns
returns c =
    puts_on c.put_decimal-i.ensures
    (puts_on c.put-j.ensures c.put_decimal.ensures)
