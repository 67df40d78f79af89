-- When a machine has no permitted move, and when nothing is left to do but to wait for a lock.
use Rattle.std.specs.Prelude.{◌≡◌, Bool, true, false, not, List, [], ℕ, ◌<◌, eqb, length, get_or}
use Rattle.std.proofs.Math.Option.{Option, none, some}
use Rattle.std.proofs.Math.ListN.{get_elem?}
use Rattle.file_format.specs.declared.accepted.Op.TheVariants.{Set, Add, Load, Store, Lock, Unlock, Skip}
use Rattle.sheet_format.specs.Layout.{Instr, op, barrier}
use Rattle.machine_spec.specs.declared.Machine.{Machine}
use Rattle.machine_spec.specs.Step.{waits}
use Rattle.machine_spec.specs.Schedule.{move}
use Rattle.machine_spec.specs.State.{State, lane_at, pos_at, move_turn}

-- no permitted move: each lane waits at choices 0 and 1
abbrev pub Stuck : Machine → (ℕ → Bool) → List (List Instr) → State → Type 0
Stuck m vol prog s =
    (t : ℕ) → t < length prog
    → (move_turn m vol prog s (move t 0) ≡ waits) × (move_turn m vol prog s (move t 1) ≡ waits)

-- a lane with this instruction next has ended, or stands at a held lock: its next instruction is a LOCK whose lock word
-- is not 0
abbrev pub halted : List ℕ → Option Instr → Bool
halted locks none = true
halted locks (some (barrier b)) = false
halted locks (some (op (Set a c))) = false
halted locks (some (op (Add a b))) = false
halted locks (some (op (Load a x))) = false
halted locks (some (op (Store a x))) = false
halted locks (some (op (Lock l))) = not (eqb (get_or locks l 0) 0)
halted locks (some (op (Unlock l))) = false
halted locks (some (op (Skip a t))) = false

-- nothing is pending, and each lane has ended or stands at a held lock
abbrev pub AllHalted : List (List Instr) → State → Type 0
AllHalted prog s =
    (t : ℕ) → t < length prog
    → ((lane_at s t).pending ≡ []) × (halted s.locks (get_elem? (get_or prog t []) (pos_at s t)) ≡ true)
