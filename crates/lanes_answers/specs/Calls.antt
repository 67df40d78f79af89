-- A schedule of bytes run on a kernel file: the answer, and the output buffer after it.
use Rattle.std.specs.Prelude.{ℕ, cond, List, ltb, length, Err}
use Rattle.file_format.specs.Accepted.{Program}
use Rattle.file_verdict.specs.declared.refusal.Refusal.TheVariants.{ShortBuffer, IllegalMove}
use Rattle.file_verdict.specs.Verdict.{Verdict, refused, accepted}
use Rattle.sheet_format.specs.Bytes.{WriteResult, over, unless_refused}
use Rattle.machine_spec.specs.declared.Machine.{Machine}
use Rattle.machine_spec.specs.Run.{Answer, run_program}
use Rattle.machine_spec.specs.Moves.{odd_bytes, moves_in}
use Rattle.machine_record.specs.Record.{state_bytes}

abbrev pub record_size : ℕ
record_size = 2280

-- the state record of a run that took place, else the buffer as it was
abbrev pub stored : Answer → List ℕ → WriteResult × List ℕ
stored a buffer = unless_refused a.refusal record_size (over (state_bytes a) buffer) buffer

-- 9, then 10 for an odd number of bytes, then the run
abbrev pub run_into : Machine → Program → List ℕ → List ℕ → WriteResult × List ℕ
run_into m k moves buffer =
    cond (ltb (length buffer) record_size) (Err ShortBuffer, buffer)
    (cond (odd_bytes moves) (Err IllegalMove, buffer)
    (stored (run_program m k (moves_in moves)) buffer))

abbrev pub run_file_by : Machine → Verdict → List ℕ → List ℕ → WriteResult × List ℕ
run_file_by m (refused r) moves buffer = (Err r, buffer)
run_file_by m (accepted k) moves buffer = run_into m k moves buffer
