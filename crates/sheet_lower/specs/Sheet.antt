-- The sheet of a file at a level.
use Rattle.std.specs.Prelude.{ℕ, List}
use Rattle.file_format.specs.Accepted.{program_of}
use Rattle.sheet_format.specs.declared.Level.{Level}
use Rattle.sheet_format.specs.Bytes.{sheet_bytes}

abbrev pub sheet_of : Level → List ℕ → List ℕ
sheet_of l s = sheet_bytes l (program_of s)
