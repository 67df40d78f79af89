-- What is claimed of the pages holds of every accepted kernel: theorem `page_claims`.
use Prim.Native.Nat.{ℕ, zero, suc, ◌+◌, ◌*◌, ◌≤◌, ◌<◌}
use mathlib.Core.Path.{◌≡◌, refl, sym, ap, ◌∙◌, subst}
use mathlib.Core.List.{List, [], ◌∷◌}
use mathlib.Core.Option.{some}
use native.Mathlib.Omega.{arith}
use lib.ListN.{length, get_or, get_elem?, take, drop}
use lib.Seq.{take_all}
use Rattle.laws.proofs.Lists.{some_at}
use Rattle.file_format.specs.Accepted.{Program}
use Rattle.file_format.specs.Lawful.{Lawful}
use Rattle.file_verdict.specs.Verdict.{accepted, verdict}
use Rattle.file_wellformed.proofs.Lawful.{accepted_lawful}
use Rattle.sheet_format.specs.Layout.{Instr, rank}
use Rattle.sheet_format.specs.declared.Level.TheVariants.{Level2}
use Rattle.sheet_format.specs.Levels.{sheet_lanes}
use Rattle.sheet_format.proofs.Laws.Rows.{total}
use Rattle.sheet_format.proofs.ReadBack.{bytes_back}
use Rattle.text_put.specs.Decimal.{decimal}
use Rattle.text_listing.specs.Line.{instr_name}
use Rattle.text_page.specs.declared.column.Column.{Column}
use Rattle.text_page.specs.Columns.{line_in, Apart, Fitting}
use Rattle.text_page.specs.Lines.{columns, field_texts, instruction_line, page_lines}
use Rattle.text_page.specs.Pages.{page_word, heading_columns, heading_line, page_count, pages_of, page_text}
use Rattle.text_page.specs.PageClaims.{line_at, lanes_of, instructions_before, instruction_count, line_of_instruction}
use Rattle.text_page.specs.PageClaims.{record_of, LineHas, PageClaims}
use Rattle.text_page.proofs.Laws.Columns.{line_length, instruction_length}
use Rattle.text_page.proofs.Laws.Lines.{lines_length, lines_few, lines_each, line_of}
use Rattle.text_page.proofs.Laws.Pages.{Whole, page_count_lem, pages_few, pages_length}
use Rattle.text_page.proofs.Where.{heading_stands, line_stands}
use Rattle.text_page.proofs.Read.{columns_hold, others_blank, newline_last}
use Rattle.text_page.proofs.Fields.{columns_apart, heading_apart, heading_fits, line_fits}

-- a line of columns one behind the other, and of texts that fit them, has them
line_has : (cs : List Column) (xs : List (List ℕ)) → Apart 1 cs → Fitting cs xs → LineHas cs xs (line_in cs xs)
line_has cs xs a f = record {
  long = line_length cs xs;
  ended = newline_last cs xs;
  texts = columns_hold cs xs a f;
  blank = others_blank cs xs a f;
}

before_total : (xs : List (List Instr)) (t : ℕ) → instructions_before xs t ≡ total (take t xs)
before_total xs zero = refl
before_total [] (suc t) = refl
before_total (x ∷ xs) (suc t) = ap (λ n. length x + n) (before_total xs t)

all_total : (xs : List (List Instr)) → instructions_before xs (length xs) ≡ total xs
all_total xs = before_total xs (length xs) ∙ ap total (take_all (length xs) xs (omega arith))

module _ (k : Program) (w : Lawful k) where
  -- the lanes read are those of the sheet
  lanes_read : lanes_of k ≡ sheet_lanes Level2 k
  lanes_read = bytes_back Level2 k w

  -- a line for each instruction
  count_lines : instruction_count k ≡ length (page_lines k)
  count_lines = all_total (lanes_of k) ∙ ap total lanes_read ∙ sym (lines_length k)

  lines_whole : Whole (page_lines k)
  lines_whole = lines_each (λ l. length l ≡ 33) instruction_length k

  text_length : length (page_text k) ≡ 33 * (instruction_count k + page_count (instruction_count k))
  unfolding page_text
  text_length = pages_length (page_lines k) lines_whole ∙ ap (λ n. 33 * (n + page_count n)) (sym count_lines)

  text_small : length (page_text k) ≤ 17226
  text_small = omega (arith, text_length, pages_few (instruction_count k) (omega (arith, count_lines, lines_few k w)))

  headings_have : (j : ℕ) → j < page_count (instruction_count k)
      → LineHas heading_columns (page_word ∷ decimal (j + 1) ∷ []) (line_at (page_text k) (56 * j))
  unfolding line_at page_text heading_line
  headings_have j h =
      let n : ℕ = length (page_lines k) in
      let begun : j < page_count n = subst (λ m. j < page_count m) count_lines h in
      let number : j + 1 < 1000 = omega (arith, page_count_lem n, lines_few k w) in
      let place : 1848 * j ≡ 33 * (56 * j) = omega arith in
      let xs : List (List ℕ) = page_word ∷ decimal (j + 1) ∷ [] in
      let found : heading_line (j + 1) ≡ line_at (page_text k) (56 * j) =
      sym (heading_stands (page_lines k) lines_whole j begun)
      ∙ ap (λ m. take 33 (drop m (pages_of (page_lines k)))) place in
      subst (LineHas heading_columns xs) found (line_has heading_columns xs heading_apart (heading_fits (j + 1) number))

  instructions_have : (t p : ℕ) (i : Instr) → get_elem? (get_or (lanes_of k) t []) p ≡ some i
      → LineHas columns (decimal t ∷ decimal p ∷ instr_name i ∷ field_texts i (record_of k t p))
      (line_at (page_text k) (line_of_instruction (instructions_before (lanes_of k) t + p)))
  unfolding line_at page_text instruction_line
  instructions_have t p i =
      rw lanes_read (λ e.
      let lanes : List (List Instr) = sheet_lanes Level2 k in
      let r : ℕ = get_or (get_or k.records t []) (rank (get_or lanes t []) p) 0 in
      let n : ℕ = instructions_before lanes t + p in
      let here = some_at (page_lines k) n (instruction_line t p i r) []
      (ap (λ m. get_elem? (page_lines k) (m + p)) (before_total lanes t) ∙ line_of k t p i e) in
      let xs : List (List ℕ) = decimal t ∷ decimal p ∷ instr_name i ∷ field_texts i r in
      let found : instruction_line t p i r ≡ line_at (page_text k) (line_of_instruction n) =
      sym (line_stands (page_lines k) lines_whole n here.0 ∙ here.1) in
      subst (LineHas columns xs) found
      (line_has columns xs columns_apart (line_fits k w t p i r e (w.records_small t (rank (get_or lanes t []) p)))))

pub lawful_pages : (k : Program) → Lawful k → PageClaims k
lawful_pages k w = record {
  pages = page_count_lem (instruction_count k);
  size = text_length k w;
  small = text_small k w;
  headings = headings_have k w;
  instructions = instructions_have k w;
}

pub page_claims : (s : List ℕ) (k : Program) → verdict s ≡ accepted k → PageClaims k
page_claims s k e = lawful_pages k (accepted_lawful s k e)
