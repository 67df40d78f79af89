-- The text of a run of a schedule on a kernel file: a line for each move, and its end.
use Rattle.std.specs.Prelude.{ℕ, suc, ◌^◌, ◌<◌, ◌≡◌, cond, List, [], length, get_or, take, None, Err}
use Rattle.std.proofs.lemmas.List.Edits.{sets}
use Rattle.file_format.specs.Accepted.{Program}
use Rattle.file_verdict.specs.Verdict.{Verdict, refused, accepted, verdict}
use Rattle.sheet_format.specs.Bytes.{WriteResult, unless_refused}
use Rattle.file_verdict.specs.declared.refusal.Refusal.TheVariants.{IllegalMove}
use Rattle.sheet_format.specs.Levels.{volatile_in}
use Rattle.machine_spec.specs.declared.Machine.{Machine}
use Rattle.machine_spec.specs.Schedule.{Move, move}
use Rattle.machine_spec.specs.Moves.{odd_bytes, moves_in}
use Rattle.machine_spec.specs.Run.{Answer, program_for, run_program}
use Rattle.machine_record.specs.Record.{state_bytes}
use Rattle.machine_course.specs.Stands.{answer_by}
use Rattle.text_run.specs.States.{answer_text}
use Rattle.text_run.specs.Turns.{move_told, RowsOf}

-- ## a line for each move

-- line i, counted from 0: move i of the schedule, in the state that the moves before it reach
abbrev pub run_line : Machine → Verdict → List Move → ℕ → List ℕ
run_line m (refused r) mvs i = []
run_line m (accepted k) mvs i =
    move_told m (volatile_in k) (program_for m k) (run_program m k (take i mvs)).state (suc i) (get_or mvs i (move 0 0))

-- move i of a schedule that is not refused on the file s, the rows of the machine's program, and the state records
-- before and after the move
pub record Between (m : Machine) (s : List ℕ) (mvs : List Move) (i : ℕ) (rows before after : List ℕ) : Type 0 where
  pub runs : (answer_by m s mvs).refusal ≡ None
  pub few : length mvs < 2 ^ 32
  pub there : i < length mvs
  pub rows_of : (k : Program) → verdict s ≡ accepted k → (t : ℕ) → t < length k.lanes
      → RowsOf rows (program_for m k) t
  pub before_is : before ≡ state_bytes (answer_by m s (take i mvs))
  pub after_is : after ≡ state_bytes (answer_by m s (take (suc i) mvs))

-- ## its end

-- the state at the end of a run that took place, as far as the buffer reaches, else the buffer as it was
abbrev pub end_into : Answer → List ℕ → WriteResult × List ℕ
end_into a buffer =
    unless_refused a.refusal (length (answer_text a)) (sets buffer 0 (answer_text a)) buffer

-- of a file's verdict and a schedule of bytes
abbrev pub tell_end_by : Machine → Verdict → List ℕ → List ℕ → WriteResult × List ℕ
tell_end_by m (refused r) moves buffer = (Err r, buffer)
tell_end_by m (accepted k) moves buffer =
    cond (odd_bytes moves) (Err IllegalMove, buffer) (end_into (run_program m k (moves_in moves)) buffer)
