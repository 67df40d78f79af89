-- The fields of an instruction in a sheet's bytes, and where the rows of each lane lie.
use Rattle.std.specs.Prelude.{ℕ, ◌+◌, ◌*◌, List, [], ◌∷◌, get_or}
use Rattle.file_format.specs.Fields.{byte, quad}
use Rattle.sheet_format.specs.Read.{counts}
use Rattle.sheet_rows.specs.declared.read.Row.{Row}
use Rattle.sheet_rows.specs.declared.parts.Parts.{Parts}

-- the fields of the instruction at the front
abbrev pub row_in : List ℕ → Row
row_in s = record { code = byte s 0; a = byte s 1; b = byte s 2; word = quad s 4 }

-- the count of lane t, none past the header's lanes
abbrev pub count_at : List ℕ → ℕ → ℕ
count_at s t = get_or (counts s) t 0

abbrev pub parts_in : List ℕ → Parts
parts_in s = record {
  from =
      16
      ∷ (16 + 8 * count_at s 0)
      ∷ (16 + 8 * (count_at s 0 + count_at s 1))
      ∷ (16 + 8 * (count_at s 0 + count_at s 1 + count_at s 2))
      ∷ [];
  count = count_at s 0 ∷ count_at s 1 ∷ count_at s 2 ∷ count_at s 3 ∷ [];
}
