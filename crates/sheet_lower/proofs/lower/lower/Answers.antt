-- `sheet_lower::lower::lower` meets its contract. Behind the `?` checks 1 to 4 have passed.
use native.Mathlib.Omega.{arith}
use mathlib.Core.Path.{sym}
use Rattle.std.proofs.lemmas.Result.{err_from_is_err_and}
use Rattle.file_accept.proofs.Laws.Checks.{fields_passed}
use Rattle.file_format.proofs.Laws.Rules.{few_records}
use Rattle.sheet_lower.proofs.Laws.Early.{refused_early}
use Rattle.sheet_lower.proofs.lower.lower.Goals as goal

pub returns-in_err-field_refusal : goal.returns-in_err-field_refusal
returns-in_err-field_refusal c =
    let p = err_from_is_err_and c.from_residual.result c.from_residual.ensures.1 in
    rw (p.1, p.2) (refused_early c.args.file.now c.in_err-field_refusal.ensures c.args.level c.args.out.now)

pub lower_within-requires-clause-fields : goal.lower_within-requires-clause-fields
lower_within-requires-clause-fields c = fields_passed _ (sym c.in_ok-field_refusal.ensures)

pub lower_within-requires-clause-rows : goal.lower_within-requires-clause-rows
lower_within-requires-clause-rows c =
    let sized = (fields_passed _ (sym c.in_ok-field_refusal.ensures)).sized in
    let shorter = c.if-file-le208.true in
    (omega arith, omega arith)

pub lower_within-requires-clause-order : goal.lower_within-requires-clause-order
lower_within-requires-clause-order c =
    let sized = (fields_passed _ (sym c.in_ok-field_refusal.ensures)).sized in
    let short = c.if-file-le208.true in
    (omega arith, omega arith)

pub lower_within-requires-then-file-le784-clause-fields : goal.lower_within-requires-then-file-le784-clause-fields
lower_within-requires-then-file-le784-clause-fields c = fields_passed _ (sym c.in_ok-field_refusal.ensures)

pub lower_within-requires-then-file-le784-clause-rows : goal.lower_within-requires-then-file-le784-clause-rows
lower_within-requires-then-file-le784-clause-rows c =
    let sized = (fields_passed _ (sym c.in_ok-field_refusal.ensures)).sized in
    (omega (arith, c.if-file-le784.true), omega (arith, c.if-file-le784.true))

pub lower_within-requires-then-file-le784-clause-order : goal.lower_within-requires-then-file-le784-clause-order
lower_within-requires-then-file-le784-clause-order c =
    let sized = (fields_passed _ (sym c.in_ok-field_refusal.ensures)).sized in
    (omega (arith, c.if-file-le784.true), omega (arith, c.if-file-le784.true))

pub lower_within-requires-2-clause-fields : goal.lower_within-requires-2-clause-fields
lower_within-requires-2-clause-fields c = fields_passed _ (sym c.in_ok-field_refusal.ensures)

pub lower_within-requires-2-clause-rows : goal.lower_within-requires-2-clause-rows
lower_within-requires-2-clause-rows c =
    let few = few_records _ (fields_passed _ (sym c.in_ok-field_refusal.ensures)).header in
    (omega arith, omega arith)

pub lower_within-requires-2-clause-order : goal.lower_within-requires-2-clause-order
lower_within-requires-2-clause-order c =
    let few = few_records _ (fields_passed _ (sym c.in_ok-field_refusal.ensures)).header in
    (omega arith, omega arith)
