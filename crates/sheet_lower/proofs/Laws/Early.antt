-- Laws of checks 1 to 4 before a buffer is cleared: the answer to a file that they refuse.
use Prim.Native.Nat.{ℕ}
use mathlib.Core.Path.{◌≡◌, sym}
use mathlib.Core.List.{List}
use Rattle.std.specs.Prelude.{Ok, Err}
use Rattle.file_format.specs.Accepted.{program_of}
use Rattle.file_verdict.specs.declared.refusal.Refusal.{Refusal}
use Rattle.file_verdict.specs.Verdict.{verdict, accepted, fields_then}
use Rattle.file_accept.proofs.Laws.Checks.{fields_refused, not_accepted}
use Rattle.sheet_format.specs.declared.Level.{Level}
use Rattle.sheet_format.specs.Bytes.{sheet_bytes, lower_by}
use Rattle.sheet_format.proofs.Laws.Loaded.{refused_by}

module _ (s : List ℕ) {r : Refusal} (is : Err r ≡ fields_then s (Ok tt)) where
  pub refused_early : (level : Level) (out : List ℕ) → (Err r, out) ≡ lower_by level (verdict s) out
  refused_early level out = sym (refused_by s (sheet_bytes level) out (sym (fields_refused s is)))

  pub unaccepted_early : ¬ verdict s ≡ accepted (program_of s)
  unaccepted_early = not_accepted s (fields_refused s is)
