-- `text_page::write::put_pages` meets its contract.
use Rattle.text_page.proofs.Laws.Given.{few_given}
use Rattle.text_page.proofs.Laws.Written.{short_given, alone_given, laid_given}
use Rattle.text_page.proofs.write.put_pages.Goals as goal

pub page_size-size-requires : goal.page_size-size-requires
page_size-size-requires c = few_given c.requires.1

pub returns-then-out-size : goal.returns-then-out-size
returns-then-out-size c = λ k g. short_given g c.page_size-size.ensures c.if-out-size.true

pub returns-then-n-eq0 : goal.returns-then-n-eq0
returns-then-n-eq0 c = λ k g.
    alone_given g c.page_size-size.ensures c.if-out-size.false c.if-n-eq0.true c.put_heading.ensures

pub returns-else-n-eq0 : goal.returns-else-n-eq0
returns-else-n-eq0 c = λ k g.
    laid_given g c.page_size-size.ensures c.if-out-size.false c.if-n-eq0.false (c.put_lines.ensures k g)
