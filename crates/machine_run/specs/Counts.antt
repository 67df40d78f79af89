-- The lengths of the lanes' programs.
use Rattle.std.specs.Prelude.{ℕ, ◌<◌, ◌≡◌, List, [], length, get_or}
use Rattle.sheet_format.specs.Layout.{Instr}

-- n programs, of which program t has as many instructions as count t says
pub record Counts (n : ℕ) (count : List ℕ) (prog : List (List Instr)) : Type 0 where
  pub lanes : length prog ≡ n
  pub each : (t : ℕ) → t < n → length (get_or prog t []) ≡ get_or count t 0
