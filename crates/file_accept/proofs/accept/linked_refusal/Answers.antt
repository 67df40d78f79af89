-- `file_accept::accept::linked_refusal` meets its contract: each return is the first of checks 5 to 8 and 12 that
-- refuses.
use mathlib.Core.Path.{◌∙◌}
use Rattle.file_format.specs.Structured.{Structured}
use Rattle.file_format.proofs.Laws.Named.{is_named, none_named}
use Rattle.file_rows.proofs.Laws.Whole.{chains_counted}
use Rattle.file_accept.proofs.Laws.Checks.{refuses5, refuses6, refuses7, past7}
use Rattle.file_accept.proofs.Laws.Order.{front_is_lane_order}
use Rattle.file_accept.proofs.accept.linked_refusal.Goals as goal

pub returns-in-Err-clause-answer : goal.returns-in-Err-clause-answer
returns-in-Err-clause-answer c = refuses5 _ c.in-Err.ensures.1 c.in-Err.ensures.0

pub returns-in-Some-clause-answer : goal.returns-in-Some-clause-answer
returns-in-Some-clause-answer c =
    let long = is_named _ c.in-Some.ensures in
    refuses6 _ c.in-Ok.ensures.0 long.0 long.1

pub returns-in-Some-bad_target-clause-answer : goal.returns-in-Some-bad_target-clause-answer
returns-in-Some-bad_target-clause-answer c =
    let target = is_named _ c.in-Some-bad_target.ensures in
    refuses7 _ c.in-Ok.ensures.0 (none_named _ c.in_default.ensures) target.0 target.1

pub returns : goal.returns
returns c =
    let ok : Structured c.args.file.now = record {
      fields = c.requires.fields;
      linkage = c.in-Ok.ensures.0;
      chains = none_named _ c.in_default.ensures;
      targets = none_named _ c.in_default-bad_target.ensures;
    } in
    let ordered = c.in-Ok.ensures.1 in record {
      answer = c.lock_refusal.ensures ∙ past7 _ ok.linkage ok.chains ok.targets;
      rows = λ z5 z6 z7. (c.write_chains.ensures, chains_counted ok ordered);
      order = λ z5 z6 z7. front_is_lane_order ok ordered;
    }
