-- `text_run::states::put_counts` meets its contract.
use mathlib.Core.Path.{ap₂}
use native.Mathlib.Omega.{arith}
use mathlib.Core.List.{[], ◌∷◌, ◌++◌}
use Rattle.sheet_format.proofs.Laws.Put.{puts_as, puts_on}
use Rattle.text_put.specs.Words.{newline, named}
use Rattle.text_run.specs.Words.{done_count, waited_count}
use Rattle.text_run.proofs.states.put_counts.Goals as goal

pub returns : goal.returns
returns c =
    let text =
    ap₂ (λ d w. named done_count d ++ named waited_count w ++ newline ∷ []) c.quad_at.ensures
    c.quad_at-2.ensures in (
      omega (arith, c.put_one-i.ensures.0, c.put_one-j.ensures.0, c.put.ensures.behind),
      puts_as text (puts_on (puts_on c.put_one-i.ensures.1 c.put_one-j.ensures.1) c.put.ensures),
    )
