-- A line of 32 characters and a newline: texts in their columns, and all else blank.
use Rattle.std.specs.Prelude.{ℕ, ◌+◌, ◌-◌, ◌≤◌, ◌<◌, ◌⊎◌, List, [], ◌∷◌, ◌++◌, length, take, drop, replicate}
use Rattle.std.proofs.lemmas.List.Edits.{sets}
use Rattle.text_put.specs.Words.{space, newline}
use Rattle.text_page.specs.declared.column.Side.{Side}
use Rattle.text_page.specs.declared.column.Side.TheVariants.{Left, Right}
use Rattle.text_page.specs.declared.column.Column.{Column}

-- a column from its first character, counted from 1
abbrev pub column : ℕ → ℕ → Side → Column
column f w s = record { first = f; width = w; side = s }

-- where a text begins, from 0: to the left at `from`, to the right behind what it leaves of its column
abbrev pub place_by : Side → ℕ → ℕ → ℕ
place_by Left from gap = from
place_by Right from gap = from + gap

-- where a text of n characters begins in its column
abbrev pub place_in : Column → ℕ → ℕ
place_in c n = place_by c.side (c.first - 1) (c.width - n)

-- a line with nothing in it
unfoldable pub blank_line : List ℕ
blank_line = replicate 32 space

-- a line with a text in a column of it
unfoldable pub in_column : List ℕ → Column → List ℕ → List ℕ
in_column line c x = sets line (place_in c (length x)) x

-- with a text in each column; columns for which there is none stay as they are
unfoldable pub in_columns : List ℕ → List Column → List (List ℕ) → List ℕ
in_columns line [] xs = line
in_columns line (c ∷ cs) [] = line
in_columns line (c ∷ cs) (x ∷ xs) = in_columns (in_column line c x) cs xs

-- the line that has these texts in these columns
unfoldable pub line_in : List Column → List (List ℕ) → List ℕ
line_in cs xs = in_columns blank_line cs xs ++ newline ∷ []

-- a column that lies within the line
pub record InLine (c : Column) : Type 0 where
  pub begins : 1 ≤ c.first
  pub ends : c.first + c.width ≤ 33

-- ## what a reader finds in a line

-- what stands in a column of a line
unfoldable pub column_in : Column → List ℕ → List ℕ
column_in c line = take c.width (drop (c.first - 1) line)

-- a text beside its blanks
abbrev pub beside : Side → List ℕ → List ℕ → List ℕ
beside Left x blanks = x ++ blanks
beside Right x blanks = blanks ++ x

-- a text as it fills its column
unfoldable pub filling : Column → List ℕ → List ℕ
filling c x = beside c.side x (replicate (c.width - length x) space)

-- columns one behind the other in a line, from character n on
abbrev pub Apart : ℕ → List Column → Type 0
Apart n [] = n ≤ 33
Apart n (c ∷ cs) = (n ≤ c.first) × Apart (c.first + c.width) cs

-- character n lies in none of the columns
abbrev pub Outside : ℕ → List Column → Type 0
Outside n [] = Unit {0}
Outside n (c ∷ cs) = ((n < c.first) ⊎ (c.first + c.width ≤ n)) × Outside n cs

-- texts that are no longer than their columns
abbrev pub Fitting : List Column → List (List ℕ) → Type 0
Fitting [] xs = Unit {0}
Fitting (c ∷ cs) [] = Unit {0}
Fitting (c ∷ cs) (x ∷ xs) = (length x ≤ c.width) × Fitting cs xs
