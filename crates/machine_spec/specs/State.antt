-- The state of all lanes, and runs over schedules.
use Rattle.std.specs.Prelude.{Bool, ℕ, suc, get_or, replicate, set as update}
use mathlib.Core.List.{List, [], ◌∷◌, ◌++◌, foldl}
use Rattle.std.proofs.Math.Option.{Option, none, some}
use Rattle.sheet_format.specs.Layout.{Instr, rank}
use Rattle.machine_spec.specs.Entries.{Entry}
use Rattle.machine_spec.specs.declared.Machine.{Machine}
use Rattle.machine_spec.specs.Step.{Control, Core, Turn, waits, refuses, passes, does, turn}
use Rattle.machine_spec.specs.Schedule.{Move}

pub record Lane : Type 0 where
  pub control : Control
  pub regs : List ℕ
  pub pending : List Entry

pub record State : Type 0 where
  pub lanes : List Lane
  pub memory : List ℕ
  pub locks : List ℕ

abbrev pub at_start : Control
at_start = record { pos = 0; marks = 0 }

-- n lanes at their starts, with the values m in memory and k free locks
abbrev pub start_state : ℕ → List ℕ → ℕ → State
start_state n m k =
    record {
      lanes = replicate n (record { control = at_start; regs = replicate 8 0; pending = [] });
      memory = m;
      locks = replicate k 0;
    }

-- beyond the lanes stands an idle one
abbrev pub idle : Lane
idle = record { control = at_start; regs = []; pending = [] }

abbrev pub lane_at : State → ℕ → Lane
lane_at s t = get_or s.lanes t idle

abbrev pub pos_at : State → ℕ → ℕ
pos_at s t = (lane_at s t).control.pos

abbrev pub core_of : State → Lane → Core
core_of s l = record { regs = l.regs; pending = l.pending; memory = s.memory; locks = s.locks }

abbrev pub lane_of : Control → Core → Lane
lane_of k c = record { control = k; regs = c.regs; pending = c.pending }

-- the state with lane t at k and core c
abbrev pub set_lane : State → ℕ → Control → Core → State
set_lane s t k c = record { lanes = update s.lanes t (lane_of k c); memory = c.memory; locks = c.locks }

-- ## runs

-- a LOAD done: its lane, its position there with barriers not counted, and the value taken
pub record Loaded : Type 0 where
  pub lane : ℕ
  pub place : ℕ
  pub value : ℕ

-- a run so far: the row of the LOADs done, and the counts of moves done and waited
pub record Run : Type 0 where
  pub state : State
  pub row : List Loaded
  pub done : ℕ
  pub waited : ℕ

-- a run so far, or the UNLOCK that it was refused for
pub data Outcome : Type 0 where
  ran : Run → Outcome
  refused : (lane place : ℕ) → Outcome

abbrev pub load_row : ℕ → ℕ → Option ℕ → List Loaded
load_row t p none = []
load_row t p (some v) = record { lane = t; place = p; value = v } ∷ []

-- with one move more that waited, or one that is done and left the state s and the row l
abbrev pub waited_more : Run → Run
waited_more r = record { state = r.state; row = r.row; done = r.done; waited = suc r.waited }

abbrev pub done_more : Run → State → List Loaded → Run
done_more r s l = record { state = s; row = l; done = suc r.done; waited = r.waited }

-- the run r after a turn of lane t, which stood at p with barriers not counted
abbrev pub apply_turn : Run → ℕ → ℕ → Turn → Outcome
apply_turn r t p waits = ran (waited_more r)
apply_turn r t p refuses = refused t p
apply_turn r t p (passes k c) = ran (done_more r (set_lane r.state t k c) r.row)
apply_turn r t p (does k c v) = ran (done_more r (set_lane r.state t k c) (r.row ++ load_row t p v))

-- a lock word holds lane + 1
abbrev pub move_turn : Machine → (ℕ → Bool) → List (List Instr) → State → Move → Turn
move_turn m vol prog s mv =
    turn m vol (suc mv.lane) (get_or prog mv.lane []) (lane_at s mv.lane).control
    (core_of s (lane_at s mv.lane)) mv.choice

-- after a refusal nothing changes
abbrev pub advance : Machine → (ℕ → Bool) → List (List Instr) → Outcome → Move → Outcome
advance m vol prog (refused t p) mv = refused t p
advance m vol prog (ran r) mv =
    apply_turn r mv.lane (rank (get_or prog mv.lane []) (pos_at r.state mv.lane))
    (move_turn m vol prog r.state mv)

-- each move works on the state that the move before it left
abbrev pub run : Machine → (ℕ → Bool) → List (List Instr) → Outcome → List Move → Outcome
run m vol prog = foldl (advance m vol prog)

abbrev pub begin : State → Outcome
begin s = ran (record { state = s; row = []; done = 0; waited = 0 })
