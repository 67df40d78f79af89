-- Direct runs of the source machine: those that the paper says go straight to memory, since the move after each STORE
-- or UNLOCK commits that entry. A run that ends on a STORE or UNLOCK is direct too.
use Rattle.std.specs.Prelude.{Bool, true, false, cond, ◌&&◌, List, [], ◌∷◌, ℕ, zero, suc, eqb, length, get_or}
use Rattle.std.proofs.Math.Option.{Option, none, some}
use Rattle.std.proofs.Math.ListN.{get_elem?}
use Rattle.file_format.specs.declared.accepted.Op.{Op}
use Rattle.file_format.specs.declared.accepted.Op.TheVariants.{Set, Add, Load, Store, Lock, Unlock, Skip}
use Rattle.sheet_format.specs.Layout.{Instr, op, barrier}
use Rattle.machine_spec.specs.declared.Machine.TheVariants.{Source}
use Rattle.machine_spec.specs.Step.{Turn, waits, refuses, passes, does}
use Rattle.machine_spec.specs.Schedule.{Move}
use Rattle.machine_spec.specs.State.{State, Outcome, ran, refused, lane_at, pos_at, move_turn, advance}

-- STORE or UNLOCK
abbrev pub appends : Op → Bool
appends (Set a c) = false
appends (Add a b) = false
appends (Load a x) = false
appends (Store a x) = true
appends (Lock l) = false
appends (Unlock l) = true
appends (Skip a t) = false

abbrev pub appends_at : Option Instr → Bool
appends_at none = false
appends_at (some (barrier b)) = false
appends_at (some (op o)) = appends o

-- the lane whose newest entry the next move has to commit, after lane t's move by choice k at instruction i
abbrev pub owed : ℕ → ℕ → Option Instr → Option ℕ
owed t zero i = cond (appends_at i) (some t) none
owed t (suc k) i = none

abbrev pub owes : List (List Instr) → State → Move → Option ℕ
owes prog s mv = owed mv.lane mv.choice (get_elem? (get_or prog mv.lane []) (pos_at s mv.lane))

abbrev pub is_done : Turn → Bool
is_done waits = false
is_done refuses = false
is_done (passes k c) = true
is_done (does k c v) = true

-- the move, whose turn is u, commits the newest entry of the lane that owes
abbrev pub honours : Option ℕ → Turn → State → Move → Bool
honours none u s mv = true
honours (some t) u s mv = eqb mv.lane t && eqb mv.choice (length (lane_at s t).pending) && is_done u

-- the source run over mvs from the outcome o is direct, d being the lane that owes at its start
abbrev pub direct : (ℕ → Bool) → List (List Instr) → Option ℕ → Outcome → List Move → Bool
direct vol prog d o [] = true
direct vol prog d (refused t p) (mv ∷ mvs) = true
direct vol prog d (ran r) (mv ∷ mvs) =
    honours d (move_turn Source vol prog r.state mv) r.state mv
    && direct vol prog (owes prog r.state mv) (advance Source vol prog (ran r) mv) mvs
