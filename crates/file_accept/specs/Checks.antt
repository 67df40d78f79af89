-- The refusal of checks 5 to 8 and 12.
use Rattle.std.specs.Prelude.{ℕ, List}
use Rattle.file_format.specs.Accepted.{program_of}
use Rattle.file_verdict.specs.Verdict.{Checked, linkage_then, lock_refusal}

unfoldable pub linked_refusal : List ℕ → Checked
linked_refusal s = linkage_then s (lock_refusal (program_of s))
