-- The bytes between words, and a word with its number.
use Rattle.std.specs.Prelude.{ℕ, List, ◌++◌}
use Rattle.text_put.specs.Decimal.{decimal}

abbrev pub space : ℕ
space = 32

abbrev pub newline : ℕ
newline = 10

-- a word and its number
abbrev pub named : List ℕ → ℕ → List ℕ
named w n = w ++ decimal n
