-- Lines on pages of at most 55 behind a heading, and the pages of a kernel.
use Rattle.std.specs.Prelude.{ℕ, suc, ◌+◌, ◌*◌, ◌/◌, cond, List, [], ◌∷◌, ◌++◌, eqb, length, take, drop}
use Rattle.file_format.specs.Accepted.{Program}
use Rattle.file_verdict.specs.Verdict.{verdict}
use Rattle.sheet_format.specs.Bytes.{WriteResult}
use Rattle.sheet_format.specs.Bytes.{joined, answer_by}
use Rattle.sheet_format.specs.Put.{in_turn}
use Rattle.text_put.specs.Decimal.{decimal}
use Rattle.text_page.specs.declared.column.Side.TheVariants.{Left, Right}
use Rattle.text_page.specs.declared.column.Column.{Column}
use Rattle.text_page.specs.Columns.{column, line_in}
use Rattle.text_page.specs.Lines.{page_lines}

-- "page"
abbrev pub page_word : List ℕ
page_word = 112 ∷ 97 ∷ 103 ∷ 101 ∷ []

-- `page` in columns 1-4, its number in columns 30-32
abbrev pub heading_columns : List Column
heading_columns = column 1 4 Left ∷ column 30 3 Right ∷ []

unfoldable pub heading_line : ℕ → List ℕ
heading_line n = line_in heading_columns (page_word ∷ decimal n ∷ [])

-- the pages that n lines take: one for each 55 begun, and one where there are none
abbrev pub page_count : ℕ → ℕ
page_count n = cond (eqb n 0) 1 ((n + 54) / 55)

-- page j, from 0: a heading with its number, from 1, then at most 55 lines
unfoldable pub page_of : List (List ℕ) → ℕ → List ℕ
page_of ls j = heading_line (suc j) ++ joined (take 55 (drop (55 * j) ls))

-- page after page
unfoldable pub pages_of : List (List ℕ) → List ℕ
pages_of ls = in_turn (page_of ls) (page_count (length ls))

-- the pages of an accepted kernel
unfoldable pub page_text : Program → List ℕ
page_text k = pages_of (page_lines k)

-- what a kernel file is answered, and the output buffer after; 9 where it is shorter than the pages
abbrev pub write_page : List ℕ → List ℕ → WriteResult × List ℕ
write_page s = answer_by page_text (verdict s)
