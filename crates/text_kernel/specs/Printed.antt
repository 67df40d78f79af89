-- What is printed of a kernel file as pages.
use Rattle.std.specs.Prelude.{ℕ, List}
use Rattle.file_verdict.specs.Verdict.{verdict}
use Rattle.text_listing.specs.Listing.{printed_by}
use Rattle.text_page.specs.Pages.{page_text}

abbrev pub printed_pages : List ℕ → List ℕ
printed_pages s = printed_by page_text (verdict s)
