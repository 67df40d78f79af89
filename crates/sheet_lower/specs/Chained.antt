-- The rows of an accepted kernel's chains in a buffer.
use Rattle.std.specs.Prelude.{ℕ, ◌+◌, ◌*◌, ◌≤◌, ◌≡◌, List, length}
use Rattle.file_format.specs.Fields.{record_count}
use Rattle.file_format.specs.Accepted.{program_of}
use Rattle.sheet_format.specs.declared.Level.TheVariants.{Level0}
use Rattle.sheet_format.specs.Bytes.{over, sheet_bytes}

-- the buffer begins with the chains of file s, which have one row for each record
pub record ChainsOf (s rows : List ℕ) : Type 0 where
  pub own : List ℕ
  pub room : length (sheet_bytes Level0 (program_of s)) ≤ length own
  pub counted : length (sheet_bytes Level0 (program_of s)) ≡ 16 + 8 * record_count s
  pub front : rows ≡ over (sheet_bytes Level0 (program_of s)) own
