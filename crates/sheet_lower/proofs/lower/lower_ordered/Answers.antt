-- `sheet_lower::lower::lower_ordered` meets its contract: the buffers have room for the records of any file.
use native.Mathlib.Omega.{arith}
use mathlib.Core.Path.{sym}
use Rattle.std.proofs.lemmas.Result.{err_from_is_err_and}
use Rattle.file_accept.proofs.Laws.Checks.{fields_passed}
use Rattle.file_format.proofs.Laws.Rules.{few_records}
use Rattle.sheet_lower.proofs.Laws.Early.{refused_early, unaccepted_early}
use Rattle.sheet_lower.proofs.lower.lower_ordered.Goals as goal

pub returns-in_err-field_refusal : goal.returns-in_err-field_refusal
returns-in_err-field_refusal c =
    let p = err_from_is_err_and c.from_residual.result c.from_residual.ensures.1 in
    let is = c.in_err-field_refusal.ensures in record {
      answer = rw (p.1, p.2) (refused_early c.args.file.now is c.args.level c.args.out.now);
      order = λ v. absurd (unaccepted_early c.args.file.now is v);
    }

pub lower_in-requires-clause-fields : goal.lower_in-requires-clause-fields
lower_in-requires-clause-fields c = fields_passed _ (sym c.in_ok-field_refusal.ensures)

pub lower_in-requires-clause-rows : goal.lower_in-requires-clause-rows
lower_in-requires-clause-rows c =
    let few = few_records _ (fields_passed _ (sym c.in_ok-field_refusal.ensures)).header in
    (omega arith, omega arith)

pub lower_in-requires-clause-order : goal.lower_in-requires-clause-order
lower_in-requires-clause-order c =
    let few = few_records _ (fields_passed _ (sym c.in_ok-field_refusal.ensures)).header in
    (omega (arith, c.requires), omega arith)
