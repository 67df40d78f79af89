-- How many bytes rows take with their header.
use Rattle.std.specs.Prelude.{ℕ, ◌+◌, ◌*◌, List, get_or}
use Rattle.sheet_rows.specs.Rows.{parts_in}

-- the rows of the last lane end the bytes
abbrev pub size_in : List ℕ → ℕ
size_in rows = get_or (parts_in rows).from 3 0 + 8 * get_or (parts_in rows).count 3 0
