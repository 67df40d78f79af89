-- The schedules that match: for a schedule of a target one of the source machine, and the other way round.
use Rattle.std.specs.Prelude.{Bool, List, [], ◌∷◌, ◌++◌, ℕ, zero, suc, get_or, drop, replicate}
use Rattle.sheet_format.specs.Layout.{Instr, op, barrier}
use Rattle.machine_spec.specs.declared.Machine.TheVariants.{Target}
use Rattle.machine_spec.specs.declared.Model.{Model}
use Rattle.machine_spec.specs.Step.{Turn, waits, refuses, passes, does}
use Rattle.machine_spec.specs.Schedule.{Move, move}
use Rattle.machine_spec.specs.State.{Outcome, ran, refused, pos_at, move_turn, advance, run}

-- ## from a target to the source machine

-- the source moves for a target's move: none where it waits or passes a barrier, else the same move
abbrev pub keep : Move → Turn → List Move
keep mv waits = []
keep mv refuses = mv ∷ []
keep mv (passes k c) = []
keep mv (does k c v) = mv ∷ []

abbrev pub keep_move : Model → (ℕ → Bool) → List (List Instr) → Outcome → Move → List Move
keep_move m vol prog (refused t p) mv = []
keep_move m vol prog (ran r) mv = keep mv (move_turn (Target m) vol prog r.state mv)

-- the source schedule for a target's schedule, which that target carries out from the outcome o
abbrev pub source_schedule : Model → (ℕ → Bool) → List (List Instr) → Outcome → List Move → List Move
source_schedule m vol prog o [] = []
source_schedule m vol prog o (mv ∷ mvs) =
    keep_move m vol prog o mv ++ source_schedule m vol prog (advance (Target m) vol prog o mv) mvs

-- ## from the source machine to a target

-- the number of barriers that stand first
abbrev pub leading : List Instr → ℕ
leading [] = 0
leading (op o ∷ is) = 0
leading (barrier b ∷ is) = suc (leading is)

-- a target's moves for a source move of lane t by choice k, where n barriers stand before the lane's next operation:
-- choice 0 passes them first; choice 1 stays; in a direct run every other choice waits
abbrev pub expand : ℕ → ℕ → ℕ → List Move
expand t zero n = replicate n (move t 0) ++ (move t 0 ∷ [])
expand t (suc zero) n = move t 1 ∷ []
expand t (suc (suc k)) n = []

abbrev pub expand_at : List (List Instr) → Outcome → Move → List Move
expand_at prog (refused t p) mv = []
expand_at prog (ran r) mv =
    expand mv.lane mv.choice (leading (drop (pos_at r.state mv.lane) (get_or prog mv.lane [])))

-- the target's schedule for a source schedule, carried out from the target's outcome o
abbrev pub target_schedule : Model → (ℕ → Bool) → List (List Instr) → Outcome → List Move → List Move
target_schedule m vol prog o [] = []
target_schedule m vol prog o (mv ∷ mvs) =
    expand_at prog o mv ++ target_schedule m vol prog (run (Target m) vol prog o (expand_at prog o mv)) mvs
