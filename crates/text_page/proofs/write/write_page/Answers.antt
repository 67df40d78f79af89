-- `text_page::write::write_page` meets its contract.
use mathlib.Core.Path.{sym, ap, ◌∙◌}
use native.Mathlib.Omega.{arith}
use Rattle.std.proofs.lemmas.Result.{err_from_is_err_and}
use Rattle.sheet_format.specs.Bytes.{answer_by}
use Rattle.text_page.specs.Pages.{page_text}
use Rattle.text_page.proofs.Laws.Written.{refused_page, accepted_page, sized_page, given_page}
use Rattle.text_page.proofs.write.write_page.Goals as goal

pub overflow_sub-size : goal.overflow_sub-size
overflow_sub-size c =
    omega (arith, sized_page c.args.file.now _ (omega arith) c.in_ok-size.ensures.answer)

pub put_pages-requires : goal.put_pages-requires
put_pages-requires c =
    let wrote = c.in_ok-size.ensures.answer in
    (_, given_page c.args.file.now _ (omega arith) wrote c.lower_ordered.ensures.order)

pub returns-in_err-size : goal.returns-in_err-size
returns-in_err-size c =
    let p = err_from_is_err_and c.from_residual.result c.from_residual.ensures.1 in
    rw (p.1, p.2) (refused_page c.args.file.now _ (omega arith) c.in_err-size.ensures.answer c.args.out.now)

pub returns : goal.returns
returns c =
    let wrote = c.in_ok-size.ensures.answer in
    c.put_pages.ensures _ (given_page c.args.file.now _ (omega arith) wrote c.lower_ordered.ensures.order)
    ∙ sym (ap (λ v. answer_by page_text v c.args.out.now) (accepted_page c.args.file.now _ (omega arith) wrote))
