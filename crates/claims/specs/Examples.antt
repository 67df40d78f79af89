-- The words of the claims by computation: lanes as placement sees them, which source runs are direct, the schedules
-- that match, and when a machine has no permitted move.
use Rattle.std.specs.Prelude.{◌≡◌, refl, Bool, true, false, List, [], ◌∷◌, map, ℕ, zero, suc, eqb}
use Rattle.std.proofs.Math.Option.{none, some}
use Rattle.std.proofs.Common.{arith}
use Rattle.file_format.specs.declared.accepted.Op.TheVariants.{Set, Add, Load, Store, Lock, Unlock, Skip}
use Rattle.barrier_placement.specs.declared.cookbook.Barrier.TheVariants.{SS, SL}
use Rattle.barrier_placement.specs.declared.cookbook.Class.TheVariants.{PL, PS, VL, VS}
use Rattle.barrier_placement.specs.declared.steps.Step.TheVariants.{Access, Skip as Jump, Other}
use Rattle.barrier_placement.specs.Sheet.{bar, op as step}
use Rattle.sheet_format.specs.Layout.{Instr, op, barrier}
use Rattle.sheet_format.specs.Items.{items}
use Rattle.machine_spec.specs.Entries.{write}
use Rattle.machine_spec.specs.declared.Machine.TheVariants.{Target}
use Rattle.machine_spec.specs.declared.Model.TheVariants.{Tso, Pso}
use Rattle.machine_spec.specs.Schedule.{Move, move}
use Rattle.machine_spec.specs.State.{Lane, State, start_state, begin, move_turn}
use Rattle.claims.specs.Schedules.{source_schedule, target_schedule}
use Rattle.claims.specs.Stuck.{Stuck, halted, AllHalted}
use Rattle.claims.specs.Direct.{is_done, direct}

-- location 1 is volatile
abbrev vol : ℕ → Bool
vol x = eqb x 1

-- a lane that stores and loads, and one that locks and unlocks
abbrev chains : List (List Instr)
chains =
    (op (Store 0 0) ∷ op (Load 1 0) ∷ op (Set 2 1) ∷ [])
    ∷ (op (Lock 0) ∷ op (Unlock 0) ∷ op (Set 2 1) ∷ [])
    ∷ []

-- two lanes, two locations, one lock
abbrev start : State
start = start_state 2 (0 ∷ 0 ∷ []) 1

-- ## a lane as placement sees it

items_hold :
    items vol
    (op (Set 0 1) ∷ op (Store 0 0) ∷ op (Store 0 1) ∷ barrier SL ∷ op (Load 1 1) ∷ op (Load 1 0) ∷ op (Skip 1 8)
    ∷ op (Add 1 0) ∷ [])
    ≡ step Other ∷ step (Access PS) ∷ step (Access VS) ∷ bar SL ∷ step (Access VL) ∷ step (Access PL) ∷ step (Jump 8)
    ∷ step Other ∷ []
items_hold = refl

-- ## direct runs

-- a schedule, and whether its run goes straight to memory
schedules : List (List Move × Bool)
schedules =
    ([], true)
    -- the next move commits the STORE
    ∷ (move 0 0 ∷ move 0 1 ∷ [], true)
    ∷ (move 0 0 ∷ move 0 1 ∷ move 0 0 ∷ move 1 0 ∷ [], true)
    -- a run that ends on a STORE, or on an UNLOCK
    ∷ (move 0 0 ∷ [], true)
    ∷ (move 1 0 ∷ move 1 0 ∷ [], true)
    -- the same lane, and another one, move in between
    ∷ (move 0 0 ∷ move 0 0 ∷ move 0 1 ∷ [], false)
    ∷ (move 0 0 ∷ move 1 0 ∷ move 0 1 ∷ [], false)
    -- the next move is a commit that waits, of the same lane and of another one
    ∷ (move 0 0 ∷ move 0 2 ∷ [], false)
    ∷ (move 0 0 ∷ move 1 1 ∷ [], false)
    -- LOCK, UNLOCK and its commit; the UNLOCK is not committed
    ∷ (move 1 0 ∷ move 1 0 ∷ move 1 1 ∷ [], true)
    ∷ (move 1 0 ∷ move 1 0 ∷ move 1 0 ∷ [], false)
    -- no STORE or UNLOCK is owed for a move that waits
    ∷ (move 0 1 ∷ move 1 2 ∷ move 1 0 ∷ move 0 0 ∷ move 0 1 ∷ [], true)
    ∷ []

direct_holds : map (λ (e : List Move × Bool). direct vol chains none (begin start) e.0) schedules
    ≡ map (λ (e : List Move × Bool). e.1) schedules
unfolding schedules
direct_holds = refl

-- ## schedules that match

-- MFENCE between a volatile store and a volatile load
abbrev fenced : List (List Instr)
fenced = (op (Store 0 1) ∷ barrier SL ∷ op (Load 1 1) ∷ []) ∷ []

-- from tso to source: a move that waits at MFENCE, and the one that passes it, are left out
source_matches :
    source_schedule Tso vol fenced (begin (start_state 1 (0 ∷ 0 ∷ []) 0))
    (move 0 0 ∷ move 0 0 ∷ move 0 1 ∷ move 0 0 ∷ move 0 0 ∷ [])
    ≡ move 0 0 ∷ move 0 1 ∷ move 0 0 ∷ []
source_matches = refl

-- from pso to source: the move that passes SS, and that of a commit which its mark holds back, are left out
abbrev ordered : List (List Instr)
ordered = (op (Store 0 0) ∷ barrier SS ∷ op (Store 0 1) ∷ []) ∷ []

pso_matches :
    source_schedule Pso vol ordered (begin (start_state 1 (0 ∷ 0 ∷ []) 0))
    (move 0 0 ∷ move 0 0 ∷ move 0 0 ∷ move 0 2 ∷ move 0 1 ∷ move 0 1 ∷ [])
    ≡ move 0 0 ∷ move 0 0 ∷ move 0 1 ∷ move 0 1 ∷ []
pso_matches = refl

-- from source to tso: MFENCE is passed before the LOAD
tso_matches :
    target_schedule Tso vol fenced (begin (start_state 1 (0 ∷ 0 ∷ []) 0)) (move 0 0 ∷ move 0 1 ∷ move 0 0 ∷ [])
    ≡ move 0 0 ∷ move 0 1 ∷ move 0 0 ∷ move 0 0 ∷ []
tso_matches = refl

-- ## no permitted move

-- lock 0 is held by lane 1, lock 1 is free: the end, and a LOCK of a held lock
halted_holds :
    map (halted (2 ∷ 0 ∷ []))
    (none ∷ some (op (Lock 0)) ∷ some (op (Lock 1)) ∷ some (op (Unlock 0)) ∷ some (barrier SL)
    ∷ some (op (Set 0 0)) ∷ some (op (Add 0 0)) ∷ some (op (Load 0 0)) ∷ some (op (Store 0 0)) ∷ some (op (Skip 0 1))
    ∷ [])
    ≡ true ∷ true ∷ false ∷ false ∷ false ∷ false ∷ false ∷ false ∷ false ∷ false ∷ []
halted_holds = refl

-- two lanes that take two locks in opposite order, as no accepted kernel does
abbrev crossed : List (List Instr)
crossed = (op (Lock 0) ∷ op (Lock 1) ∷ []) ∷ (op (Lock 1) ∷ op (Lock 0) ∷ []) ∷ []

abbrev second : Lane
second = record { control = record { pos = 1; marks = 0 }; regs = []; pending = [] }

-- each holds its first lock
abbrev deadlock : State
deadlock = record { lanes = second ∷ second ∷ []; memory = []; locks = 1 ∷ 2 ∷ [] }

deadlock_stuck : Stuck (Target Tso) vol crossed deadlock
deadlock_stuck zero l = (refl, refl)
deadlock_stuck (suc zero) l = (refl, refl)
deadlock_stuck (suc (suc t)) l = absurd (omega arith)

deadlock_halted : AllHalted crossed deadlock
deadlock_halted zero l = (refl, refl)
deadlock_halted (suc zero) l = (refl, refl)
deadlock_halted (suc (suc t)) l = absurd (omega arith)

-- lane 0 at MFENCE, with a store pending: choice 0 waits, choice 1 does not
abbrev waiting : State
waiting =
    record {
      lanes = record { control = record { pos = 1; marks = 0 }; regs = []; pending = write 1 5 ∷ [] } ∷ [];
      memory = 0 ∷ 0 ∷ [];
      locks = [];
    }

waiting_goes_on :
    map (λ (mv : Move). is_done (move_turn (Target Tso) vol fenced waiting mv)) (move 0 0 ∷ move 0 1 ∷ [])
    ≡ false ∷ true ∷ []
waiting_goes_on = refl
