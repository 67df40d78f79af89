-- `file_accept::accept::field_refusal` meets its contract: each return is the first of checks 1 to 4 that refuses.
use mathlib.Core.Path.{sym, ap, ◌∙◌}
use mathlib.Core.Bool.{not}
use Rattle.file_format.proofs.Laws.Named.{is_named, none_named}
use Rattle.file_accept.proofs.Laws.Checks.{refuses1, refuses2, refuses3, refuses4, past4}
use Rattle.file_accept.proofs.accept.field_refusal.Goals as goal

pub returns-then-file-lt16 : goal.returns-then-file-lt16
returns-then-file-lt16 c = refuses1 _ _ c.if-file-lt16.true

pub returns-then-not-header_rule : goal.returns-then-not-header_rule
returns-then-not-header_rule c =
    let h2 = ap not (sym c.header_rule.ensures ∙ c.if-not-header_rule.true) in
    refuses2 _ _ c.if-file-lt16.false h2

pub returns-then-bad_length : goal.returns-then-bad_length
returns-then-bad_length c =
    let h2 = ap not (sym c.header_rule.ensures ∙ c.if-not-header_rule.false) in
    let h3 = sym c.bad_length.ensures ∙ c.if-bad_length.true in
    refuses3 _ _ c.if-file-lt16.false h2 h3

pub returns-in-Some : goal.returns-in-Some
returns-in-Some c =
    let h2 = ap not (sym c.header_rule.ensures ∙ c.if-not-header_rule.false) in
    let h3 = sym c.bad_length.ensures ∙ c.if-bad_length.false in
    let bad = is_named _ c.in-Some.ensures in
    refuses4 _ _ c.if-file-lt16.false h2 h3 bad.0 bad.1

pub returns : goal.returns
returns c =
    let h2 = ap not (sym c.header_rule.ensures ∙ c.if-not-header_rule.false) in
    let h3 = sym c.bad_length.ensures ∙ c.if-bad_length.false in
    past4 _ _ c.if-file-lt16.false h2 h3 (none_named _ c.in_default.ensures)
