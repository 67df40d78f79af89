-- `text_put::put::put_text` meets its contract. What is written so far is the text as far as i.
use mathlib.Core.Path.{refl, ◌∙◌}
use Rattle.sheet_format.proofs.Laws.Put.{puts_length, puts_next}
use Rattle.text_put.proofs.put.put_text.Goals as goal

pub loop-i-preserved : goal.loop-i-preserved
loop-i-preserved c = (
  puts_length c.put.ensures ∙ c.loop-i.invariant.0,
  puts_next _ _ _ c.loop-i.invariant.1 c.loop-i-test.true refl c.put.ensures,
)
