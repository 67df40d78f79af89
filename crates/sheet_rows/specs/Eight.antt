-- Eight bytes in a row.
use Rattle.std.specs.Prelude.{ℕ, ◌+◌, List, [], ◌∷◌}
use Rattle.file_format.specs.Fields.{byte}

-- the eight bytes from i on
abbrev pub eight_in : List ℕ → ℕ → List ℕ
eight_in s i =
    byte s i ∷ byte s (i + 1) ∷ byte s (i + 2) ∷ byte s (i + 3)
    ∷ byte s (i + 4) ∷ byte s (i + 5) ∷ byte s (i + 6) ∷ byte s (i + 7)
    ∷ []
