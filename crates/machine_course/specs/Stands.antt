-- A run so far: what it holds is the definition's answer on the moves so far.
use Rattle.std.specs.Prelude.{ℕ, ◌+◌, ◌^◌, ◌≤◌, ◌<◌, ◌≡◌, false, List, [], length, get_or, replicate}
use Rattle.std.specs.Prelude.{Option, Some, None}
use Rattle.file_format.specs.Accepted.{Program, is_volatile}
use Rattle.file_verdict.specs.declared.refusal.Refusal.{Refusal}
use Rattle.file_verdict.specs.declared.refusal.Refusal.TheVariants.{IllegalMove}
use Rattle.file_verdict.specs.Verdict.{refused, accepted, verdict}
use Rattle.sheet_format.specs.Levels.{volatile_in}
use Rattle.machine_spec.specs.Schedule.{Move}
use Rattle.machine_spec.specs.State.{start_state}
use Rattle.machine_spec.specs.Run.{Answer, program_for, refused_start, run_by}
use Rattle.sheet_rows.specs.Rows.{parts_in}
use Rattle.machine_lane.specs.Lanes.{flags}
use Rattle.machine_spec.specs.declared.Machine.{Machine}
use Rattle.machine_state.specs.declared.state.Moved.{Moved}
use Rattle.machine_state.specs.declared.state.Moved.TheVariants.{Waited, Done, ReleaseNotHeld}
use Rattle.machine_state.specs.States.{Blocks, count_of, state_in, Sized}
use Rattle.machine_run.specs.Runs.{ProgramAt}
use Rattle.machine_course.specs.declared.course.Course.{Course}

-- the definition's answer on the file s
abbrev pub answer_by : Machine → List ℕ → List Move → Answer
answer_by m s mvs = run_by m s (verdict s) mvs

-- x has the program of the accepted kernel k, whose bytes are in the rows where these say so; the store h has its lanes
pub record Prepared (m : Machine) (k : Program) (rows : List ℕ) (x : Course) (h : Blocks) : Type 0 where
  pub machine : x.machine ≡ m
  pub volatile : flags x.volatile ≡ volatile_in k
  pub lanes : x.extent.lanes ≡ length k.lanes
  pub locations : x.extent.locations ≡ k.locations
  pub locks : x.extent.locks ≡ k.locks
  pub held : count_of h 0 ≡ length k.lanes
  pub first : x.first ≡ (parts_in rows).from
  pub programs : (t : ℕ) → t < length k.lanes
      → ProgramAt rows (get_or x.first t 0) (get_or x.count t 0) (get_or (program_for m k) t [])

-- the moves mvs on the file s came to x and the store h
pub record Stands (s : List ℕ) (m : Machine) (mvs : List Move) (rows : List ℕ) (x : Course) (h : Blocks) : Type 0 where
  pub sized : Sized h
  pub few : x.done + x.waited ≤ length mvs
  pub counted : x.refusal ≡ None → x.done + x.waited ≡ length mvs
  pub refusal : x.refusal ≡ (answer_by m s mvs).refusal
  pub done : x.done ≡ (answer_by m s mvs).done
  pub waited : x.waited ≡ (answer_by m s mvs).waited
  pub state : state_in h ≡ (answer_by m s mvs).state
  pub prepared : (k : Program) → verdict s ≡ accepted k → Prepared m k rows x h

-- some moves on some file, so few that one more can be counted
pub record Standing (rows : List ℕ) (x : Course) (h : Blocks) : Type 0 where
  pub file : List ℕ
  pub machine : Machine
  pub moves : List Move
  pub stands : Stands file machine moves rows x h
  pub small : length moves < 2 ^ 62

-- some moves on some file
pub record Judged (x : Course) (h : Blocks) : Type 0 where
  pub file : List ℕ
  pub machine : Machine
  pub moves : List Move
  pub rows : List ℕ
  pub stands : Stands file machine moves rows x h

-- ## what the code makes of x

-- with another refusal and other counts
abbrev pub counting : Course → Option Refusal → ℕ → ℕ → Course
counting x refusal done waited = record {
  machine = x.machine;
  volatile = x.volatile;
  first = x.first;
  count = x.count;
  extent = x.extent;
  refusal = refusal;
  done = done;
  waited = waited;
}

abbrev pub counted : Course → Moved → Course
counted x Waited = counting x x.refusal x.done (x.waited + 1)
counted x Done = counting x x.refusal (x.done + 1) x.waited
counted x ReleaseNotHeld = x

abbrev pub stopped : Course → Course
stopped x = counting x (Some IllegalMove) 0 0

abbrev pub blocked : Machine → Refusal → Course
blocked m r = record {
  machine = m;
  volatile = replicate 16 false;
  first = replicate 4 0;
  count = replicate 4 0;
  extent = record { lanes = 0; locations = 0; locks = 0 };
  refusal = Some r;
  done = 0;
  waited = 0;
}

-- before the first move, by the rows and the mask
pub record Sets (m : Machine) (mask : ℕ) (rows : List ℕ) (x : Course) : Type 0 where
  pub machine : x.machine ≡ m
  pub volatile : flags x.volatile ≡ is_volatile mask
  pub first : x.first ≡ (parts_in rows).from
  pub count : x.count ≡ (parts_in rows).count
  pub lanes : x.extent.lanes ≡ get_or rows 0 0
  pub locations : x.extent.locations ≡ get_or rows 1 0
  pub locks : x.extent.locks ≡ get_or rows 2 0
  pub zeros : (x.refusal ≡ None) × (x.done ≡ 0) × (x.waited ≡ 0)

-- ## the start

-- e is the start of n lanes, ls locations and ks locks, where an array has room for them
pub record Started (n ls ks : ℕ) (e : Blocks) : Type 0 where
  pub sized : Sized e
  pub lanes : count_of e 0 ≡ n
  pub state : n ≤ 4 → ls ≤ 64 → ks ≤ 64 → state_in e ≡ start_state n (replicate ls 0) ks

-- that of a file that is refused with r
pub record RefusedStart (s : List ℕ) (r : Refusal) (e : Blocks) : Type 0 where
  pub sized : Sized e
  pub state : verdict s ≡ refused r → state_in e ≡ refused_start s r
