-- `text_run::numbers::put_numbers_line` meets its contract. What is written behind the word are the first i numbers.
use mathlib.Core.Path.{◌≡◌, ap}
use mathlib.Core.List.{◌∷◌}
use native.Mathlib.Omega.{arith}
use Rattle.sheet_format.proofs.Laws.Put.{puts_as, puts_on}
use Rattle.sheet_format.proofs.Laws.Turn.{turn_none, turn_on_lem}
use Rattle.text_put.specs.Decimal.{decimal}
use Rattle.text_put.specs.Words.{space}
use Rattle.text_run.specs.Lanes.{spaced, number_at}
use Rattle.text_run.proofs.numbers.put_numbers_line.Goals as goal

pub loop-i-init : goal.loop-i-init
loop-i-init c = (omega arith, turn_none _)

pub put_one-at-requires : goal.put_one-at-requires
put_one-at-requires c =
    omega (arith, c.requires.0, c.put_text-at.ensures.behind, c.loop-i.invariant.0)

pub loop-i-preserved : goal.loop-i-preserved
loop-i-preserved c =
    let text = ap (λ v. space ∷ decimal v) c.number_at.ensures in (
      omega (arith, c.put_one-at.ensures.0, c.loop-i.invariant.0),
      turn_on_lem (λ j. space ∷ decimal (number_at c.args.s.now c.args.base c.args.width j)) c.loop-i.i
          c.loop-i.invariant.1
          (puts_as text c.put_one-at.ensures.1),
    )

pub put-requires : goal.put-requires
put-requires c =
    omega (arith, c.requires.0, c.put_text-at.ensures.behind, c.loop-i.invariant.0)

pub returns : goal.returns
returns c =
    let last : c.loop-i.i ≡ c.args.n = omega arith in
    let numbers = puts_as (ap (spaced (number_at c.args.s.now c.args.base c.args.width)) last) c.loop-i.invariant.1 in (
      omega (arith, c.put_text-at.ensures.behind, c.loop-i.invariant.0, last, c.put.ensures.behind),
      puts_on (puts_on c.put_text-at.ensures numbers) c.put.ensures,
    )
