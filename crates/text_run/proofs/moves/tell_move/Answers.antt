-- `text_run::moves::tell_move` meets its contract.
use native.Mathlib.Omega.{arith}
use Rattle.text_put.proofs.Laws.Decimal.{decimal_few}
use Rattle.sheet_format.proofs.Laws.Put.{puts_on}
use Rattle.text_run.specs.Moves.{line_by}
use Rattle.text_run.proofs.moves.tell_move.Goals as goal

pub put_one-j-requires : goal.put_one-j-requires
put_one-j-requires c =
    omega (arith, c.put_decimal-i.ensures.behind, decimal_few c.args.n (omega arith))

pub put_one-k-requires : goal.put_one-k-requires
put_one-k-requires c =
    omega (arith, c.put_one-j.ensures.0, c.put_decimal-i.ensures.behind, decimal_few c.args.n (omega arith))

pub put_outcome-end-requires : goal.put_outcome-end-requires
put_outcome-end-requires c =
    omega (
      arith,
      c.put_one-k.ensures.0,
      c.put_one-j.ensures.0,
      c.put_decimal-i.ensures.behind,
      decimal_few c.args.n (omega arith),
    )

pub put-requires : goal.put-requires
put-requires c =
    omega (
      arith,
      c.put_outcome-end.ensures.0,
      c.put_one-k.ensures.0,
      c.put_one-j.ensures.0,
      c.put_decimal-i.ensures.behind,
      decimal_few c.args.n (omega arith),
    )

pub returns : goal.returns
unfolding line_by
returns c = (
  omega (
    arith,
    c.put.ensures.behind,
    c.put_outcome-end.ensures.0,
    c.put_one-k.ensures.0,
    c.put_one-j.ensures.0,
    c.put_decimal-i.ensures.behind,
    decimal_few c.args.n (omega arith),
  ),
  puts_on
      (puts_on
      (puts_on (puts_on c.put_decimal-i.ensures c.put_one-j.ensures.1) c.put_one-k.ensures.1)
      c.put_outcome-end.ensures.1)
      c.put.ensures,
)
