-- The rows of a lane of a file, which level 0 has as they are.
use Rattle.std.specs.Prelude.{ℕ, List}
use Rattle.file_format.specs.Fields.{head}
use Rattle.file_format.specs.Accepted.{ops_at}
use Rattle.sheet_rows.specs.Lanes.{op_rows}

-- the rows of lane t
abbrev pub chain_at : List ℕ → ℕ → List ℕ
chain_at s t = op_rows (ops_at s (head s t))
