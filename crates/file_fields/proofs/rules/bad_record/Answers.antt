-- `file_fields::rules::bad_record` meets its contract.
use mathlib.Core.Bool.{not}
use mathlib.Core.Path.{◌∙◌, sym, ap}
use native.Mathlib.Omega.{arith}
use Rattle.file_format.specs.Search.{lowest}
use Rattle.file_format.specs.Rules.{bad_record}
use Rattle.file_format.proofs.Laws.Named.{found_named, none_found}
use Rattle.file_format.proofs.Laws.Search.{search_start, search_on}
use Rattle.file_fields.proofs.rules.bad_record.Goals as goal

pub loop-i-init : goal.loop-i-init
unfolding bad_record
loop-i-init c = search_start _ 1 c.rows_of-rows.result.count ∙ ap (lowest _ 1) c.rows_of-rows.ensures.counted

pub returns-then-not-record_rule : goal.returns-then-not-record_rule
returns-then-not-record_rule c =
    found_named _ _ _ (omega arith) (omega arith) (ap not (sym c.record_rule.ensures ∙ c.if-not-record_rule.true))
    c.loop-i.invariant

pub loop-i-preserved : goal.loop-i-preserved
loop-i-preserved c =
    search_on _ _ _ (omega arith) (ap not (sym c.record_rule.ensures ∙ c.if-not-record_rule.false)) c.loop-i.invariant

pub returns : goal.returns
returns c = none_found _ _ _ (omega arith) c.loop-i.invariant
