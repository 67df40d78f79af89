-- `file_accept::accept::accept` meets its contract: checks 1 to 4, and where they pass 5 to 8 and 12.
use mathlib.Core.Path.{sym, ◌∙◌}
use native.Mathlib.Omega.{arith}
use Rattle.std.proofs.lemmas.Result.{err_from_is_err_and}
use Rattle.file_format.specs.Accepted.{program_of}
use Rattle.file_format.proofs.Laws.Rules.{few_records}
use Rattle.file_verdict.proofs.Laws.Verdict.{sound, accepted_as}
use Rattle.file_accept.proofs.Laws.Checks.{fields_passed, fields_refused, fields_kept, not_accepted}
use Rattle.file_accept.proofs.accept.accept.Goals as goal

pub returns-in_err-field_refusal : goal.returns-in_err-field_refusal
returns-in_err-field_refusal c =
    let p = err_from_is_err_and c.from_residual.result c.from_residual.ensures.1 in
    let refused = fields_refused c.args.file.now c.in_err-field_refusal.ensures in
    record {
      answer = rw (p.1, p.2) refused;
      rows = λ v. absurd (not_accepted _ refused v);
    }

pub linked_refusal-requires-clause-fields : goal.linked_refusal-requires-clause-fields
linked_refusal-requires-clause-fields c = fields_passed _ (sym c.in_ok-field_refusal.ensures)

pub linked_refusal-requires-clause-room : goal.linked_refusal-requires-clause-room
linked_refusal-requires-clause-room c = c.requires.room (fields_passed _ (sym c.in_ok-field_refusal.ensures))

pub linked_refusal-requires-clause-order : goal.linked_refusal-requires-clause-order
linked_refusal-requires-clause-order c =
    let few = few_records _ (fields_passed _ (sym c.in_ok-field_refusal.ensures)).header in
    (omega arith, omega arith)

pub returns : goal.returns
returns c =
    let f = fields_passed _ (sym c.in_ok-field_refusal.ensures) in record {
      answer = c.linked_refusal.ensures.answer ∙ sym (fields_kept c.args.file.now f);
      rows = λ v.
          let st = (sound c.args.file.now (accepted_as c.args.file.now (program_of c.args.file.now) v).0).0 in
          (c.linked_refusal.ensures.rows st.linkage st.chains st.targets).0;
    }
