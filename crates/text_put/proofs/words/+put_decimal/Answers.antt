-- `text_put::words::put_decimal`: the digits of n / 10, and the last one behind them.
use mathlib.Core.Path.{sym, ap, ◌∙◌}
use mathlib.Core.List.{[], ◌∷◌}
use native.Mathlib.Omega.{arith}
use Rattle.sheet_format.proofs.Laws.Put.{puts_as, puts_on}
use Rattle.text_put.proofs.Laws.Decimal.{decimal_one, decimal_more, decimal_room}
use Rattle.text_put.proofs.words.+put_decimal.Goals as goal

pub returns-then-n-lt10 : goal.returns-then-n-lt10
returns-then-n-lt10 t c =
    puts_as (ap (λ x. x ∷ []) c.digit.ensures ∙ sym (decimal_one _ c.if-n-lt10.true)) c.put.ensures

pub put-requires-2 : goal.put-requires-2
put-requires-2 t c =
    omega (
      arith,
      c.put_decimal-behind.ensures.behind,
      decimal_room c.args.n c.if-n-lt10.false (omega arith),
      c.requires,
    )

pub returns : goal.returns
returns t c =
    let last = puts_as (ap (λ x. x ∷ []) c.digit-2.ensures) c.put-2.ensures in
    puts_as (sym (decimal_more _ c.if-n-lt10.false)) (puts_on c.put_decimal-behind.ensures last)
