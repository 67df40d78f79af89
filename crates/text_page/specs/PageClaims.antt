-- What is claimed of the pages of every accepted kernel, on one page: proofs/Theorem.antt proves it.
use Rattle.std.specs.Prelude.{ℕ, zero, suc, ◌+◌, ◌*◌, ◌-◌, ◌/◌, ◌≤◌, ◌<◌, max, ◌≡◌, List, [], ◌∷◌, length, get_or}
use Rattle.std.specs.Prelude.{take, drop}
use Rattle.std.proofs.Math.Option.{some}
use Rattle.std.proofs.Math.ListN.{get_elem?}
use Rattle.file_format.specs.Accepted.{Program}
use Rattle.sheet_format.specs.Layout.{Instr, rank}
use Rattle.sheet_format.specs.declared.Level.TheVariants.{Level2}
use Rattle.sheet_format.specs.Bytes.{sheet_bytes}
use Rattle.sheet_format.specs.Read.{read_sheet}
use Rattle.text_put.specs.Decimal.{decimal}
use Rattle.text_put.specs.Words.{space, newline}
use Rattle.text_listing.specs.Line.{instr_name}
use Rattle.text_page.specs.declared.column.Column.{Column}
use Rattle.text_page.specs.Columns.{column_in, filling, Outside}
use Rattle.text_page.specs.Lines.{columns, field_texts}
use Rattle.text_page.specs.Pages.{page_word, heading_columns, page_count, page_text}

-- line m of a text, from 0, where each has 33 bytes
unfoldable pub line_at : List ℕ → ℕ → List ℕ
line_at text m = take 33 (drop (33 * m) text)

-- the instructions of each lane, read from the bytes of the level 2 sheet
abbrev pub lanes_of : Program → List (List Instr)
lanes_of k = read_sheet (sheet_bytes Level2 k)

-- how many instructions stand before lane t
abbrev pub instructions_before : List (List Instr) → ℕ → ℕ
instructions_before lanes zero = 0
instructions_before [] (suc t) = 0
instructions_before (is ∷ lanes) (suc t) = length is + instructions_before lanes t

abbrev pub instruction_count : Program → ℕ
instruction_count k = instructions_before (lanes_of k) (length (lanes_of k))

-- the line of instruction i, from 0: behind the instructions before it and the headings of their pages and its own
abbrev pub line_of_instruction : ℕ → ℕ
line_of_instruction i = i + i / 55 + 1

-- the record of lane t's instruction at position p: the kernel's, at the place that it has in the lane's chain
-- rank is p: how many operations stand before position p
abbrev pub record_of : Program → ℕ → ℕ → ℕ
record_of k t p = get_or (get_or k.records t []) (rank (get_or (lanes_of k) t []) p) 0

-- column_in c l: what stands in column c of a line; filling c x: the text x at its side of the column, blanks beside it
-- Outside n cs: character n, from 1, lies in none of the columns

-- a line of 32 characters and a newline, which has these texts in these columns, and is blank in all else
pub record LineHas (cs : List Column) (xs : List (List ℕ)) (line : List ℕ) : Type 0 where
  pub long : length line ≡ 33
  pub ended : get_or line 32 0 ≡ newline
  pub texts : (j : ℕ) (c : Column) → get_elem? cs j ≡ some c → column_in c line ≡ filling c (get_or xs j [])
  pub blank : (n : ℕ) → 1 ≤ n → n ≤ 32 → Outside n cs → get_or line (n - 1) 0 ≡ space

pub record PageClaims (k : Program) : Type 0 where
  -- one page for each 55 instructions begun, and at least one
  pub pages : page_count (instruction_count k) ≡ max 1 ((instruction_count k + 54) / 55)
  -- a line for each page's heading and for each instruction, of 33 bytes each
  pub size : length (page_text k) ≡ 33 * (instruction_count k + page_count (instruction_count k))
  pub small : length (page_text k) ≤ 17226
  -- each page begins with its heading, behind pages of 56 lines
  pub headings : (j : ℕ) → j < page_count (instruction_count k)
      → LineHas heading_columns (page_word ∷ decimal (j + 1) ∷ []) (line_at (page_text k) (56 * j))
  -- the instructions are those of the level 2 sheet, lane after lane, each operation with its record
  pub instructions : (t p : ℕ) (i : Instr) → get_elem? (get_or (lanes_of k) t []) p ≡ some i
      → LineHas columns (decimal t ∷ decimal p ∷ instr_name i ∷ field_texts i (record_of k t p))
      (line_at (page_text k) (line_of_instruction (instructions_before (lanes_of k) t + p)))
