-- Runs from the bytes of a kernel file: what the machines answer.
use Rattle.std.specs.Prelude.{ℕ, Bool, false, cond, List, [], map, ltb, length, get_or, replicate, Option, Some, None}
use Rattle.file_format.specs.Fields.{lane_count, locations, locks}
use Rattle.file_format.specs.Accepted.{Program}
use Rattle.file_verdict.specs.declared.refusal.Refusal.{Refusal}
use Rattle.file_verdict.specs.declared.refusal.Refusal.TheVariants.{IllegalMove, ReleaseNotHeld}
use Rattle.file_verdict.specs.Verdict.{Verdict, refused as rejected, accepted, verdict, number_of, record_of}
use Rattle.sheet_format.specs.Layout.{Instr, op}
use Rattle.sheet_format.specs.declared.Level.{Level}
use Rattle.sheet_format.specs.declared.Level.TheVariants.{Level0, Level2, Level3}
use Rattle.sheet_format.specs.Levels.{volatile_in}
use Rattle.sheet_format.specs.Bytes.{sheet_bytes}
use Rattle.sheet_format.specs.Read.{read_sheet}
use Rattle.machine_spec.specs.declared.Machine.{Machine}
use Rattle.machine_spec.specs.declared.Machine.TheVariants.{Source, Target}
use Rattle.machine_spec.specs.declared.Model.TheVariants.{Tso, Pso}
use Rattle.machine_spec.specs.Schedule.{Move, limit, legal}
use Rattle.machine_spec.specs.State.{State, Loaded, Outcome, ran, refused, start_state, begin, run}
use Rattle.machine_spec.specs.View.{finished, View, view_of}

-- the refusal, or none where the run took place
pub record Answer : Type 0 where
  pub refusal : Option Refusal
  pub state : State
  pub finished : Bool
  pub done : ℕ
  pub waited : ℕ
  pub row : List Loaded

-- the paper's number of the refusal, 0 where there is none, and the record that it names
abbrev pub number_in : Option Refusal → ℕ
number_in None = 0
number_in (Some r) = number_of r

abbrev pub record_in : Option Refusal → ℕ
record_in None = 0
record_in (Some r) = record_of r

-- a refusal: the start state s, not finished, nothing counted
abbrev pub refused_with : State → Refusal → Answer
refused_with s r = record { refusal = Some r; state = s; finished = false; done = 0; waited = 0; row = [] }

-- records are the kernel's, lane by lane: an UNLOCK of a lock that is not held is named by its place in its lane
abbrev pub answer_of : List (List Instr) → List (List ℕ) → State → Outcome → Answer
answer_of prog records s (refused t p) = refused_with s (ReleaseNotHeld (get_or (get_or records t []) p 0))
answer_of prog records s (ran r) = record {
  refusal = None;
  state = r.state;
  finished = finished prog r.state;
  done = r.done;
  waited = r.waited;
  row = r.row;
}

-- the start of a run, all zero
abbrev pub start_of : Program → State
start_of k = start_state (length k.lanes) (replicate k.locations 0) k.locks

-- the level that a machine runs
abbrev pub level_of : Machine → Level
level_of Source = Level0
level_of (Target Tso) = Level2
level_of (Target Pso) = Level3

-- the machine's program: the kernel's chains, or what the bytes of the sheet of its level stand for
abbrev pub program_for : Machine → Program → List (List Instr)
program_for Source k = map (map op) k.lanes
program_for (Target m) k = read_sheet (sheet_bytes (level_of (Target m)) k)

abbrev pub run_on : Machine → Program → List Move → Outcome
run_on m k mvs = run m (volatile_in k) (program_for m k) (begin (start_of k)) mvs

-- the whole schedule is looked at for 10 before the first move
abbrev pub run_program : Machine → Program → List Move → Answer
run_program m k mvs =
    cond (legal (length k.lanes) (limit m) mvs)
    (answer_of (program_for m k) k.records (start_of k) (run_on m k mvs))
    (refused_with (start_of k) IllegalMove)

-- a refused file's start state: that of its header where this is valid, from 3 on; else no lane, location or lock
abbrev pub refused_start : List ℕ → Refusal → State
refused_start s r = cond (ltb (number_of r) 3) (start_state 0 [] 0)
    (start_state (lane_count s) (replicate (locations s) 0) (locks s))

abbrev pub run_by : Machine → List ℕ → Verdict → List Move → Answer
run_by m s (rejected r) mvs = refused_with (refused_start s r) r
run_by m s (accepted k) mvs = run_program m k mvs

abbrev pub run_file : Machine → List ℕ → List Move → Answer
run_file m s = run_by m s (verdict s)

-- what demand 3 compares of an answer
abbrev pub shown : Answer → View
shown a = view_of a.row a.finished a.state

-- a schedule that is refused with 10 counts as the empty one
abbrev pub counts_as : Machine → Program → List Move → List Move
counts_as m k mvs = cond (legal (length k.lanes) (limit m) mvs) mvs []
