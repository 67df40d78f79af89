-- Runs of the code over the bytes of a schedule: which it can run, and what its answer says of the outcome.
use Rattle.std.specs.Prelude.{ℕ, ◌+◌, ◌*◌, ◌≤◌, ◌<◌, ◌≡◌, Bool, List, [], length, get_or, take, drop, Ok, Err}
use Rattle.std.specs.declared.result.Result.{Result}
use Rattle.std.proofs.Math.Option.{some}
use Rattle.std.proofs.Math.ListN.{get_elem?}
use Rattle.sheet_format.specs.Layout.{Instr, rank}
use Rattle.sheet_format.specs.Read.{read_rows}
use Rattle.machine_spec.specs.Schedule.{Move}
use Rattle.machine_spec.specs.State.{Loaded, Run, Outcome, ran, refused, lane_at, run, begin}
use Rattle.machine_spec.specs.declared.Machine.{Machine}
use Rattle.machine_run.specs.declared.run.Tally.{Tally}
use Rattle.machine_run.specs.declared.run.Unheld.{Unheld}
use Rattle.machine_state.specs.Ready.{LaneReady}
use Rattle.machine_state.specs.States.{Blocks, count_of, state_in, Sized}

-- a program is so many rows of the sheet, from a byte on
pub record ProgramAt (sheet : List ℕ) (first count : ℕ) (prog : List Instr) : Type 0 where
  pub rows : prog ≡ read_rows count (drop first sheet)
  pub inside : first + 8 * count ≤ length sheet

-- The code can run the moves: it has each lane's program, each move names a lane, and that lane can make
-- it in the state that the moves before it reach.
pub record RunnableBy (m : Machine) (vol : ℕ → Bool) (sheet first count : List ℕ) (mvs : List Move) (s : Blocks)
    (prog : List (List Instr)) : Type 0 where
  pub lanes : count_of s 0 ≤ 4
  pub programs : (t : ℕ) → t < count_of s 0 → ProgramAt sheet (get_or first t 0) (get_or count t 0) (get_or prog t [])
  pub named : (k : ℕ) (mv : Move) → get_elem? mvs k ≡ some mv → mv.lane < count_of s 0
  pub ready : (k : ℕ) (mv : Move) (r : Run) → get_elem? mvs k ≡ some mv
      → run m vol prog (begin (state_in s)) (take k mvs) ≡ ran r
      → LaneReady (get_or prog mv.lane []) (lane_at r.state mv.lane)

-- the code can run the moves of some program
pub record Runnable (m : Machine) (vol : ℕ → Bool) (sheet first count : List ℕ) (mvs : List Move) (s : Blocks)
    : Type 0 where
  pub program : List (List Instr)
  pub runs : RunnableBy m vol sheet first count mvs s program

-- a run that came to the store s
abbrev pub course : Blocks → List Loaded → ℕ → ℕ → Outcome
course s row d w = ran (record { state = state_in s; row = row; done = d; waited = w })

-- what a run is answered with: the moves done and waited, or the UNLOCK that was refused
abbrev pub Ended : Type 0
Ended = Result Tally Unheld

abbrev pub Ran : ℕ → ℕ → Ended
Ran d w = Ok (record { done = d; waited = w })

abbrev pub Refused : ℕ → ℕ → Ended
Refused t p = Err (record { lane = t; position = p })

-- the outcome that an answer stands for, with the store s and a row of loaded values
abbrev pub outcome_by : List (List Instr) → Blocks → List Loaded → Ended → Outcome
outcome_by prog s row (Ok n) = course s row n.done n.waited
outcome_by prog s row (Err u) = refused u.lane (rank (get_or prog u.lane []) u.position)

-- the moves took store s to store e and were answered with q; the code does not keep the row of loaded values
pub record Ends (m : Machine) (vol : ℕ → Bool) (mvs : List Move) (prog : List (List Instr)) (s : Blocks) (q : Ended)
    (e : Blocks) : Type 0 where
  pub sized : Sized e
  pub lanes : count_of e 0 ≡ count_of s 0
  pub row : List Loaded
  pub outcome : run m vol prog (begin (state_in s)) mvs ≡ outcome_by prog e row q
