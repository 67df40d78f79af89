-- `file_fields::limits::record_rule` meets its contract.
use native.Mathlib.Omega.{arith}
use Rattle.std.proofs.lemmas.Grind.{common_steps}
use Rattle.file_format.specs.Fields.{operation}
use Rattle.file_format.specs.Rules.{record_rule}
use Rattle.file_format.proofs.Laws.Rules.{limits_at}
use Rattle.file_fields.proofs.limits.record_rule.Goals as goal

pub returns-then-whole_word-rows : goal.returns-then-whole_word-rows
unfolding record_rule
returns-then-whole_word-rows c =
    let op = operation c.args.s.now c.args.i in
    grind (arith, common_steps, limits_at c.requires.1 op c.row_of-op.ensures.0)

pub returns-else-whole_word-rows : goal.returns-else-whole_word-rows
unfolding record_rule
returns-else-whole_word-rows c =
    let op = operation c.args.s.now c.args.i in
    grind (arith, common_steps, limits_at c.requires.1 op c.row_of-op.ensures.0)
