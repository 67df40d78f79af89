-- Turns that the source and the tso machine must and must not take, values that they load, and runs of small kernels,
-- by computation.
use Rattle.std.specs.Prelude.{Option, Some, None}
use Rattle.file_verdict.specs.declared.refusal.Refusal.{Refusal}
use Rattle.file_verdict.specs.declared.refusal.Refusal.TheVariants.{IllegalMove, ReleaseNotHeld}
use Rattle.std.specs.Prelude.{◌≡◌, refl, Bool, true, false, List, [], ◌∷◌, map, ℕ, eqb, replicate}
use Rattle.file_format.specs.declared.accepted.Op.{Op}
use Rattle.file_format.specs.declared.accepted.Op.TheVariants.{Set, Load, Store, Lock, Unlock, Skip}
use Rattle.file_format.specs.Accepted.{Program}
use Rattle.barrier_placement.specs.declared.cookbook.Barrier.TheVariants.{SS, SL}
use Rattle.barrier_placement.specs.Place.{stands, due, due_after}
use Rattle.sheet_format.specs.Layout.{Instr, op, barrier}
use Rattle.sheet_format.specs.Bytes.{sheet_bytes}
use Rattle.sheet_format.specs.Read.{read_sheet}
use Rattle.machine_spec.specs.Entries.{Entry, write, release}
use Rattle.machine_spec.specs.declared.Machine.{Machine}
use Rattle.machine_spec.specs.declared.Machine.TheVariants.{Source, Target}
use Rattle.machine_spec.specs.declared.Model.TheVariants.{Tso}
use Rattle.machine_spec.specs.Step.{Core, Turn, waits, refuses, passes, does, value_of, turn}
use Rattle.machine_spec.specs.Schedule.{Move, move}
use Rattle.machine_spec.specs.Moves.{odd_bytes, moves_in}
use Rattle.machine_spec.specs.State.{Loaded, at_start}
use Rattle.machine_spec.specs.View.{drained}
use Rattle.machine_spec.specs.Run.{Answer, run_program}

-- location 1 is volatile, location 0 is not
abbrev vol : ℕ → Bool
vol x = eqb x 1

-- memory holds 7 and 8, and lock 0 is free
abbrev core : List Entry → Core
core es = record { regs = replicate 8 0; pending = es; memory = 7 ∷ 8 ∷ []; locks = 0 ∷ [] }

-- ## turns

-- a lane at an instruction, with these entries pending
record Try : Type 0 where
  machine : Machine
  next : Instr
  pending : List Entry
  choice : ℕ
  permitted : Bool

abbrev try : Machine → Instr → List Entry → ℕ → Bool → Try
try m i es c b = record { machine = m; next = i; pending = es; choice = c; permitted = b }

abbrev goes : Turn → Bool
goes waits = false
goes refuses = false
goes (passes k c) = true
goes (does k c v) = true

abbrev tried : Try → Bool
tried e = goes (turn e.machine vol 1 (e.next ∷ []) at_start (core e.pending) e.choice)

tries : List Try
tries =
    -- a volatile load of the source machine waits for its own volatile store and release; a plain one does not
    try Source (op (Load 0 1)) (write 1 5 ∷ []) 0 false
    ∷ try Source (op (Load 0 1)) (release 0 ∷ []) 0 false
    ∷ try Source (op (Load 0 1)) (write 0 5 ∷ []) 0 true
    ∷ try Source (op (Load 0 0)) (write 1 5 ∷ []) 0 true
    ∷ try (Target Tso) (op (Load 0 1)) (write 1 5 ∷ []) 0 true
    -- an UNLOCK does not commit ahead of an older plain store, which may overtake an older UNLOCK
    ∷ try Source (op (Load 0 0)) (write 0 5 ∷ release 0 ∷ []) 2 false
    ∷ try Source (op (Load 0 0)) (write 0 5 ∷ write 1 6 ∷ []) 2 false
    ∷ try Source (op (Load 0 0)) (release 0 ∷ write 0 5 ∷ []) 2 true
    ∷ try Source (op (Load 0 0)) (write 0 5 ∷ write 0 6 ∷ []) 2 false
    -- the tso machine commits only the oldest
    ∷ try (Target Tso) (op (Load 0 0)) (release 0 ∷ write 0 5 ∷ []) 2 false
    ∷ try (Target Tso) (op (Load 0 0)) (release 0 ∷ write 0 5 ∷ []) 1 true
    -- LOCK: the source machine waits for volatile stores and releases, the tso machine for all
    ∷ try Source (op (Lock 0)) (write 0 5 ∷ []) 0 true
    ∷ try Source (op (Lock 0)) (write 1 5 ∷ []) 0 false
    ∷ try (Target Tso) (op (Lock 0)) (write 0 5 ∷ []) 0 false
    ∷ try (Target Tso) (op (Lock 0)) [] 0 true
    -- MFENCE waits for every entry, another barrier for none
    ∷ try (Target Tso) (barrier SL) (write 0 5 ∷ []) 0 false
    ∷ try (Target Tso) (barrier SL) [] 0 true
    ∷ try (Target Tso) (barrier SS) (write 0 5 ∷ []) 0 true
    -- k beyond the list waits
    ∷ try Source (op (Load 0 0)) (write 0 5 ∷ []) 2 false
    ∷ []

tries_hold : map tried tries ≡ map (λ e. e.permitted) tries
unfolding tries
tries_hold = refl

-- ## values

-- the newest own pending value, else memory's; a volatile load of the source machine reads memory
pending_values : List Entry
pending_values = write 0 5 ∷ write 1 6 ∷ write 0 9 ∷ []

values_hold :
    map (value_of Source vol (core pending_values)) (0 ∷ 1 ∷ [])
    ≡ 9 ∷ 8 ∷ []
unfolding pending_values
values_hold = refl

tso_values_hold :
    map (value_of (Target Tso) vol (core pending_values)) (0 ∷ 1 ∷ [])
    ≡ 9 ∷ 6 ∷ []
unfolding pending_values
tso_values_hold = refl

-- ## runs

-- two lanes that each store to their own location and load the other's; both are volatile
abbrev exchange : Program
exchange =
    record {
      locations = 2;
      locks = 0;
      mask = 3;
      records = (1 ∷ 2 ∷ 3 ∷ []) ∷ (4 ∷ 5 ∷ 6 ∷ []) ∷ [];
      lanes =
          (Set 0 1 ∷ Store 0 0 ∷ Load 1 1 ∷ [])
          ∷ (Set 0 1 ∷ Store 0 1 ∷ Load 1 0 ∷ [])
          ∷ [];
    }

-- one lane over one lock; no file with the second is accepted
abbrev single : List Op → Program
single ops =
    record { locations = 1; locks = 1; mask = 0; records = (1 ∷ 2 ∷ 3 ∷ 4 ∷ []) ∷ []; lanes = ops ∷ [] }

abbrev storing : Program
storing = single (Set 0 1 ∷ Store 0 0 ∷ [])

-- lane 1 stores, and lane 0 does not
abbrev lane1_stores : Program
lane1_stores =
    record {
      locations = 1;
      locks = 0;
      mask = 0;
      records = (1 ∷ []) ∷ (2 ∷ 3 ∷ []) ∷ [];
      lanes = (Set 0 1 ∷ []) ∷ (Set 0 1 ∷ Store 0 0 ∷ []) ∷ [];
    }

record Ran : Type 0 where
  refusal : Option Refusal
  done : ℕ
  waited : ℕ
  finished : Bool
  drained : Bool
  row : List Loaded
  memory : List ℕ
  locks : List ℕ

abbrev outcome : Machine → Program → List Move → Ran
outcome m k mvs =
    let a : Answer = run_program m k mvs in
    record {
      refusal = a.refusal;
      done = a.done;
      waited = a.waited;
      finished = a.finished;
      drained = drained a.state;
      row = a.row;
      memory = a.state.memory;
      locks = a.state.locks;
    }

-- no refusal: the counts, finished or not, nothing pending or something, the row, memory and locks
abbrev ends : ℕ → ℕ → Bool → Bool → List Loaded → List ℕ → List ℕ → Ran
ends d w f e row m ls =
    record {
      refusal = None;
      done = d;
      waited = w;
      finished = f;
      drained = e;
      row = row;
      memory = m;
      locks = ls;
    }

-- a refusal with its record, in the start state
abbrev refuse : Refusal → List ℕ → List ℕ → Ran
refuse r m ls =
    record {
      refusal = Some r;
      done = 0;
      waited = 0;
      finished = false;
      drained = true;
      row = [];
      memory = m;
      locks = ls;
    }

abbrev took : ℕ → ℕ → ℕ → Loaded
took t p v = record { lane = t; place = p; value = v }

-- lane t: SET, STORE, the volatile load, which waits, the commit, and the load
abbrev waiting : ℕ → List Move
waiting t = move t 0 ∷ move t 0 ∷ move t 0 ∷ move t 1 ∷ move t 0 ∷ []

runs : List (Ran × Ran)
runs =
    -- nothing done: not finished
    (outcome Source exchange [], ends 0 0 false true [] (0 ∷ 0 ∷ []) [])
    ∷ (outcome Source exchange (waiting 0), ends 4 1 false true (took 0 2 0 ∷ []) (1 ∷ 0 ∷ []) [])
    -- the tso machine waits at MFENCE instead, passes it, and then loads; MFENCE is not counted in the place
    ∷ (outcome (Target Tso) exchange (waiting 0), ends 4 1 false true [] (1 ∷ 0 ∷ []) [])
    ∷ (
      outcome (Target Tso) exchange (move 0 0 ∷ move 0 0 ∷ move 0 1 ∷ move 0 0 ∷ move 0 0 ∷ []),
      ends 5 0 false true (took 0 2 0 ∷ []) (1 ∷ 0 ∷ []) [],
    )
    -- a choice above 1, and a lane of T or more, are looked for before the first move
    ∷ (outcome (Target Tso) exchange (move 0 0 ∷ move 0 2 ∷ []), refuse IllegalMove (0 ∷ 0 ∷ []) [])
    ∷ (outcome Source exchange (move 0 0 ∷ move 2 0 ∷ []), refuse IllegalMove (0 ∷ 0 ∷ []) [])
    ∷ (outcome Source exchange (move 0 0 ∷ move 0 2 ∷ []), ends 1 1 false true [] (0 ∷ 0 ∷ []) [])
    -- a lane at its end waits; while a release is pending its lock is held, and the run is not finished
    ∷ (
      outcome Source (single (Lock 0 ∷ Unlock 0 ∷ [])) (move 0 0 ∷ move 0 0 ∷ move 0 0 ∷ []),
      ends 2 1 false false [] (0 ∷ []) (1 ∷ []),
    )
    ∷ (
      outcome Source (single (Lock 0 ∷ Unlock 0 ∷ [])) (move 0 0 ∷ move 0 0 ∷ move 0 1 ∷ []),
      ends 3 0 true true [] (0 ∷ []) (0 ∷ []),
    )
    -- a lane at its end with a pending store is not finished; after its commit it is
    ∷ (outcome Source storing (move 0 0 ∷ move 0 0 ∷ []), ends 2 0 false false [] (0 ∷ []) (0 ∷ []))
    ∷ (outcome (Target Tso) storing (move 0 0 ∷ move 0 0 ∷ []), ends 2 0 false false [] (0 ∷ []) (0 ∷ []))
    ∷ (outcome Source storing (move 0 0 ∷ move 0 0 ∷ move 0 1 ∷ []), ends 3 0 true true [] (1 ∷ []) (0 ∷ []))
    ∷ (outcome (Target Tso) storing (move 0 0 ∷ move 0 0 ∷ move 0 1 ∷ []), ends 3 0 true true [] (1 ∷ []) (0 ∷ []))
    -- nothing may be pending in any lane: here it is in lane 1 alone
    ∷ (
      outcome Source lane1_stores (move 0 0 ∷ move 1 0 ∷ move 1 0 ∷ []),
      ends 3 0 false false [] (0 ∷ []) [],
    )
    ∷ (
      outcome Source lane1_stores (move 0 0 ∷ move 1 0 ∷ move 1 0 ∷ move 1 1 ∷ []),
      ends 4 0 true true [] (1 ∷ []) [],
    )
    -- the empty kernel's empty run is finished
    ∷ (outcome Source (single []) [], ends 0 0 true true [] (0 ∷ []) (0 ∷ []))
    ∷ (outcome (Target Tso) (single []) [], ends 0 0 true true [] (0 ∷ []) (0 ∷ []))
    -- an UNLOCK of a lock that is not held, by its record
    ∷ (
      outcome Source (single (Set 0 1 ∷ Store 0 0 ∷ Unlock 0 ∷ [])) (move 0 0 ∷ move 0 0 ∷ move 0 0 ∷ move 0 1 ∷ []),
      refuse (ReleaseNotHeld 3) (0 ∷ []) (0 ∷ []),
    )
    -- a SKIP goes to its target where the register is 0, and on where it is not
    ∷ (
      outcome Source (single (Skip 0 3 ∷ Set 0 1 ∷ Store 0 0 ∷ [])) (move 0 0 ∷ move 0 0 ∷ []),
      ends 1 1 true true [] (0 ∷ []) (0 ∷ []),
    )
    ∷ (
      outcome Source (single (Set 0 1 ∷ Skip 0 3 ∷ Store 0 0 ∷ [])) (move 0 0 ∷ move 0 0 ∷ move 0 0 ∷ move 0 1 ∷ []),
      ends 4 0 true true [] (1 ∷ []) (0 ∷ []),
    )
    ∷ []

runs_hold : map (λ (e : Ran × Ran). e.0) runs ≡ map (λ (e : Ran × Ran). e.1) runs
unfolding runs read_sheet sheet_bytes stands due due_after
runs_hold = refl

-- ## schedules as bytes

-- lane first; a byte without a partner makes no move
moves_hold : moves_in (0 ∷ 64 ∷ 3 ∷ 1 ∷ 2 ∷ []) ≡ move 0 64 ∷ move 3 1 ∷ []
unfolding moves_in
moves_hold = refl

odd_hold : map odd_bytes ([] ∷ (0 ∷ []) ∷ (0 ∷ 0 ∷ []) ∷ []) ≡ false ∷ true ∷ false ∷ []
odd_hold = refl
