-- Laws of lines in columns: each has 33 bytes, whatever its texts.
use Prim.Native.Nat.{ℕ, ◌+◌}
use mathlib.Core.Path.{◌≡◌, refl, ap, ◌∙◌}
use mathlib.Core.List.{List, [], ◌∷◌}
use lib.ListN.{length, length-append}
use lib.Seq.{length-sets}
use Rattle.sheet_format.specs.Layout.{Instr}
use Rattle.text_put.specs.Decimal.{decimal}
use Rattle.text_put.specs.Words.{newline}
use Rattle.text_page.specs.declared.column.Column.{Column}
use Rattle.text_page.specs.Columns.{place_in, blank_line, in_column, in_columns, line_in}
use Rattle.text_listing.specs.Line.{instr_name}
use Rattle.text_page.specs.Lines.{columns, field_texts, instruction_line}
use Rattle.text_page.specs.Pages.{page_word, heading_columns, heading_line}

pub columns_length : (line : List ℕ) (cs : List Column) (xs : List (List ℕ))
    → length (in_columns line cs xs) ≡ length line
unfolding in_columns in_column
columns_length line [] xs = refl
columns_length line (c ∷ cs) [] = refl
columns_length line (c ∷ cs) (x ∷ xs) =
    columns_length (in_column line c x) cs xs ∙ length-sets line (place_in c (length x)) x

pub line_length : (cs : List Column) (xs : List (List ℕ)) → length (line_in cs xs) ≡ 33
unfolding line_in blank_line
line_length cs xs =
    length-append (in_columns blank_line cs xs) (newline ∷ []) ∙ ap (λ n. n + 1) (columns_length blank_line cs xs)

pub heading_length : (n : ℕ) → length (heading_line n) ≡ 33
unfolding heading_line
heading_length n = line_length heading_columns (page_word ∷ decimal n ∷ [])

pub instruction_length : (t p : ℕ) (i : Instr) (r : ℕ) → length (instruction_line t p i r) ≡ 33
unfolding instruction_line
instruction_length t p i r = line_length columns (decimal t ∷ decimal p ∷ instr_name i ∷ field_texts i r)
