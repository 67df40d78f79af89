-- `text_run::lane::put_lane_line` meets its contract.
use Prim.Native.Nat.{◌+◌}
use mathlib.Core.Path.{ap, ap₂, ◌∙◌}
use mathlib.Core.List.{◌++◌}
use native.Mathlib.Omega.{arith}
use Rattle.file_format.specs.Fields.{word}
use Rattle.sheet_format.proofs.Laws.Put.{puts_as, puts_on}
use Rattle.text_put.specs.Words.{named}
use Rattle.text_run.specs.Words.{lane_start, position_word, registers_word}
use Rattle.text_run.specs.declared.numbers.Width.TheVariants.{Quad}
use Rattle.text_run.specs.Lanes.{number_at, numbers_line}
use Rattle.text_run.proofs.lane.put_lane_line.Goals as goal

pub returns : goal.returns
returns c =
    let text =
    ap₂ (λ p k. named lane_start c.args.t ++ named position_word p
    ++ numbers_line registers_word (number_at c.args.s.now (k + 4) Quad) 8)
    (c.from.ensures ∙ c.word_at.ensures.0 ∙ ap (word c.args.s.now) c.lane_from-from.ensures.0)
    c.lane_from-from.ensures.0 in (
      omega (arith, c.put_one-i.ensures.0, c.put_one-j.ensures.0, c.put_numbers_line.ensures.0),
      puts_as text
          (puts_on (puts_on c.put_one-i.ensures.1 c.put_one-j.ensures.1) c.put_numbers_line.ensures.1),
    )
