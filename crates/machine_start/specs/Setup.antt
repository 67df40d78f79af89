-- What a run starts from: an accepted kernel, its program in the bytes of rows, and a legal schedule.
use Rattle.std.specs.Prelude.{ℕ, ◌≤◌, ◌<◌, ◌≡◌, Bool, true, List, [], length, get_or}
use Rattle.file_format.specs.Accepted.{Program}
use Rattle.file_verdict.specs.Verdict.{accepted, verdict}
use Rattle.sheet_format.specs.Bytes.{WriteResult}
use Rattle.std.specs.Prelude.{Ok}
use Rattle.sheet_format.specs.Levels.{volatile_in}
use Rattle.sheet_format.specs.Bytes.{over, sheet_bytes}
use Rattle.machine_spec.specs.Schedule.{Move, limit, legal}
use Rattle.machine_spec.specs.Run.{start_of, program_for, run_program, level_of}
use Rattle.machine_spec.specs.Moves.{moves_in}
use Rattle.machine_spec.specs.declared.Machine.{Machine}
use Rattle.machine_state.specs.States.{Blocks, count_of, state_in, Sized}
use Rattle.machine_run.specs.Runs.{ProgramAt}
use Rattle.machine_record.specs.Record.{state_bytes}

-- the kernel k of the file s, and moves that number 10 lets through
pub record Legal (m : Machine) (mvs : List Move) (s : List ℕ) (k : Program) : Type 0 where
  pub accepts : verdict s ≡ accepted k
  pub lets : legal (length k.lanes) (limit m) mvs ≡ true

-- the kernel's mask and its program's bytes, in a buffer that takes every program
pub record ProgramIn (m : Machine) (mask : ℕ) (rows moves s : List ℕ) (k : Program) : Type 0 where
  pub schedule : Legal m (moves_in moves) s k
  pub masked : mask ≡ k.mask
  pub own : List ℕ
  pub room : 4112 ≤ length own
  pub front : rows ≡ over (sheet_bytes (level_of m) k) own

-- of some file
pub record Startable (m : Machine) (mask : ℕ) (rows moves : List ℕ) : Type 0 where
  pub file : List ℕ
  pub kernel : Program
  pub program : ProgramIn m mask rows moves file kernel

-- the store h at the kernel's start, with its volatile locations and each lane's rows
pub record AtStart (m : Machine) (vol : ℕ → Bool) (rows first count : List ℕ) (mvs : List Move) (h : Blocks)
    (s : List ℕ) (k : Program) : Type 0 where
  pub schedule : Legal m mvs s k
  pub volatile : vol ≡ volatile_in k
  pub lanes : count_of h 0 ≡ length k.lanes
  pub sized : Sized h
  pub start : state_in h ≡ start_of k
  pub programs : (t : ℕ) → t < length k.lanes
      → ProgramAt rows (get_or first t 0) (get_or count t 0) (get_or (program_for m k) t [])

-- of some file
pub record Begun (m : Machine) (vol : ℕ → Bool) (rows first count : List ℕ) (mvs : List Move) (h : Blocks)
    : Type 0 where
  pub file : List ℕ
  pub kernel : Program
  pub begins : AtStart m vol rows first count mvs h file kernel

-- the answer of a run that took place, and the output buffer with the state record at its front
abbrev pub ran_into : Machine → Program → List ℕ → List ℕ → WriteResult × List ℕ
ran_into m k moves buffer = (Ok 2280, over (state_bytes (run_program m k (moves_in moves))) buffer)
