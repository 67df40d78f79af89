-- Laws of a machine's program from a kernel file: what its answer says of the file, and that its runs are no refusals.
use Prim.Native.Nat.{ℕ, ◌≤◌}
use mathlib.Core.Path.{◌≡◌, refl}
use mathlib.Core.Bool.{true}
use mathlib.Core.List.{List}
use native.Mathlib.Omega.{arith}
use lib.ListN.{length}
use Rattle.file_format.specs.Accepted.{Program}
use Rattle.file_verdict.specs.Verdict.{verdict, refused as refusing, accepted}
use Rattle.std.specs.Prelude.{Ok, Err, None}
use Rattle.file_verdict.specs.declared.refusal.Refusal.{Refusal}
use Rattle.sheet_format.proofs.Answers.{BytesIn, refuses_as, wrote_as}
use Rattle.machine_spec.proofs.Levels.{program_narrow}
use Rattle.machine_spec.specs.declared.Machine.{Machine}
use Rattle.machine_spec.specs.Schedule.{Move, limit, legal}
use Rattle.machine_spec.specs.State.{Outcome, ran, refused}
use Rattle.machine_spec.specs.Run.{answer_of, start_of, program_for, run_on, run_program, level_of}
use Rattle.sheet_format.specs.Bytes.{sheet_bytes, lower_by}
use Rattle.machine_start.proofs.Answered.{not_refused}

-- a legal schedule's run is no refusal
pub ran_number : (s : List ℕ) (k : Program) → verdict s ≡ accepted k → (m : Machine) (mvs : List Move)
    → legal (length k.lanes) (limit m) mvs ≡ true → (run_program m k mvs).refusal ≡ None
ran_number s k e m mvs le = rw le (go (run_on m k mvs) refl)
  where
    go : (o : Outcome) → run_on m k mvs ≡ o → (answer_of (program_for m k) k.records (start_of k) o).refusal ≡ None
    go (ran r) h = refl
    go (refused t p) h = absurd (not_refused s k e m mvs le t p h)

-- a machine's program, in a buffer that takes every program
module _ (m : Machine) (s own : List ℕ) (big : 4112 ≤ length own) where
  pub file_verdict : {r : Refusal} {after : List ℕ} → (Err r, after) ≡ lower_by (level_of m) (verdict s) own
      → verdict s ≡ refusing r
  file_verdict = refuses_as (level_of m) s own (omega (arith, program_narrow m))

  pub file_accepted : {n : ℕ} {after : List ℕ} → (Ok n, after) ≡ lower_by (level_of m) (verdict s) own
      → BytesIn (sheet_bytes (level_of m)) s own after
  file_accepted = wrote_as (level_of m) s own (omega (arith, program_narrow m))
