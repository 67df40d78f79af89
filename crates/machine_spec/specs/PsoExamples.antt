-- Turns that the pso machine must and must not take, the marks after them, lists with their marks, and runs of small
-- kernels, by computation.
use Rattle.std.specs.Prelude.{◌≡◌, refl, Bool, true, false, List, [], ◌∷◌, map, ℕ, eqb, replicate}
use Rattle.std.proofs.Math.Option.{Option, none, some}
use Rattle.file_format.specs.declared.accepted.Op.TheVariants.{Set, Load, Store, Lock, Unlock}
use Rattle.file_format.specs.Accepted.{Program}
use Rattle.barrier_placement.specs.declared.cookbook.Barrier.TheVariants.{LL, LS, SS, SL}
use Rattle.barrier_placement.specs.Place.{stands, due, due_after}
use Rattle.sheet_format.specs.Layout.{Instr, op, barrier}
use Rattle.sheet_format.specs.Bytes.{sheet_bytes}
use Rattle.sheet_format.specs.Read.{read_sheet}
use Rattle.machine_spec.specs.Entries.{Entry, write, release}
use Rattle.machine_spec.specs.Listed.{EntryOrMark, entry, mark, listed, mark_behind, pass_ss, may_leave, removed}
use Rattle.machine_spec.specs.Listed.{vanish}
use Rattle.machine_spec.specs.declared.Machine.{Machine}
use Rattle.machine_spec.specs.declared.Machine.TheVariants.{Source, Target}
use Rattle.machine_spec.specs.declared.Model.TheVariants.{Tso, Pso}
use Rattle.machine_spec.specs.Step.{Core, Turn, waits, refuses, passes, does, value_of, turn}
use Rattle.machine_spec.specs.Schedule.{Move, move}
use Rattle.machine_spec.specs.State.{lane_at}
use Rattle.machine_spec.specs.Run.{number_in, Answer, run_program}

-- location 1 is volatile, location 0 is not
abbrev vol : ℕ → Bool
vol x = eqb x 1

-- memory holds 7, 8 and 9, lock 0 is free and lock 1 is this lane's
abbrev core : List Entry → Core
core es = record { regs = replicate 8 0; pending = es; memory = 7 ∷ 8 ∷ 9 ∷ []; locks = 0 ∷ 1 ∷ [] }

-- ## turns

-- a lane at an instruction, with these entries and marks pending, and the marks after its turn, where it goes on
record Try : Type 0 where
  machine : Machine
  next : Instr
  pending : List Entry
  marks : ℕ
  choice : ℕ
  after : Option ℕ

abbrev try : Machine → Instr → List Entry → ℕ → ℕ → Option ℕ → Try
try m i es ks c a = record { machine = m; next = i; pending = es; marks = ks; choice = c; after = a }

abbrev marks_of : Turn → Option ℕ
marks_of waits = none
marks_of refuses = none
marks_of (passes k c) = some k.marks
marks_of (does k c v) = some k.marks

abbrev tried : Try → Option ℕ
tried e = marks_of
    (turn e.machine vol 1 (e.next ∷ []) (record { pos = 0; marks = e.marks }) (core e.pending) e.choice)

abbrev pso : Instr → List Entry → ℕ → ℕ → Option ℕ → Try
pso = try (Target Pso)

-- two stores to different locations, and three
abbrev two : List Entry
two = write 0 5 ∷ write 2 6 ∷ []

abbrev three : List Entry
three = write 0 5 ∷ write 2 6 ∷ write 1 4 ∷ []

-- 1 is a mark behind the first entry, 2 one behind the second, 4 one behind the third
tries : List Try
tries =
    -- an entry commits past an older one to another location, also a volatile store and an UNLOCK
    pso (op (Load 0 0)) two 0 2 (some 0)
    ∷ pso (op (Load 0 0)) three 0 3 (some 0)
    ∷ pso (op (Load 0 0)) (write 0 5 ∷ release 0 ∷ []) 0 2 (some 0)
    -- not past one to its own location or lock
    ∷ pso (op (Load 0 0)) (write 0 5 ∷ write 0 6 ∷ []) 0 2 none
    ∷ pso (op (Load 0 0)) (release 0 ∷ release 0 ∷ []) 0 2 none
    ∷ pso (op (Load 0 0)) (release 0 ∷ release 1 ∷ []) 0 2 (some 0)
    ∷ pso (op (Load 0 0)) (write 0 5 ∷ write 2 6 ∷ write 0 4 ∷ []) 0 3 none
    -- not past a mark; those before it may, in either order
    ∷ pso (op (Load 0 0)) two 1 2 none
    ∷ pso (op (Load 0 0)) three 2 3 none
    ∷ pso (op (Load 0 0)) three 2 2 (some 1)
    ∷ pso (op (Load 0 0)) three 2 1 (some 1)
    ∷ pso (op (Load 0 0)) three 1 3 none
    -- a mark that becomes the oldest vanishes, and another comes one nearer
    ∷ pso (op (Load 0 0)) two 1 1 (some 0)
    ∷ pso (op (Load 0 0)) three 3 1 (some 1)
    ∷ pso (op (Load 0 0)) three 4 2 (some 2)
    -- SS: none pending, a mark; right after another mark no second one
    ∷ pso (barrier SS) [] 0 0 (some 0)
    ∷ pso (barrier SS) (write 0 5 ∷ []) 0 0 (some 1)
    ∷ pso (barrier SS) (write 0 5 ∷ []) 1 0 (some 1)
    ∷ pso (barrier SS) two 1 0 (some 3)
    ∷ pso (barrier SS) three 0 0 (some 4)
    -- no other barrier leaves one, and on tso and the source machine SS does not
    ∷ pso (barrier LL) (write 0 5 ∷ []) 0 0 (some 0)
    ∷ pso (barrier LS) (write 0 5 ∷ []) 0 0 (some 0)
    ∷ try (Target Tso) (barrier SS) (write 0 5 ∷ []) 0 0 (some 0)
    ∷ try Source (barrier SS) (write 0 5 ∷ []) 0 0 (some 0)
    -- SL and LOCK need an empty list; a LOAD, a STORE and an UNLOCK do not, and leave the marks
    ∷ pso (barrier SL) (write 0 5 ∷ []) 0 0 none
    ∷ pso (barrier SL) [] 0 0 (some 0)
    ∷ pso (op (Lock 0)) (write 0 5 ∷ []) 0 0 none
    ∷ pso (op (Lock 0)) [] 0 0 (some 0)
    ∷ pso (op (Load 0 1)) (write 1 5 ∷ []) 1 0 (some 1)
    ∷ pso (op (Store 0 1)) (write 1 5 ∷ []) 1 0 (some 1)
    ∷ pso (op (Unlock 1)) (write 1 5 ∷ []) 1 0 (some 1)
    -- k beyond the list waits; marks are not counted
    ∷ pso (op (Load 0 0)) two 1 3 none
    ∷ pso (op (Load 0 0)) [] 0 1 none
    ∷ []

tries_hold : map tried tries ≡ map (λ e. e.after) tries
unfolding tries
tries_hold = refl

-- the newest own pending value, else memory's, also of a volatile location
values_hold :
    map (value_of (Target Pso) vol (core (write 0 5 ∷ write 1 6 ∷ write 0 9 ∷ []))) (0 ∷ 1 ∷ 2 ∷ [])
    ≡ 9 ∷ 6 ∷ 9 ∷ []
values_hold = refl

-- ## lists with their marks

listed_holds :
    map (listed three) (0 ∷ 1 ∷ 2 ∷ 5 ∷ [])
    ≡ (entry (write 0 5) ∷ entry (write 2 6) ∷ entry (write 1 4) ∷ [])
    ∷ (entry (write 0 5) ∷ mark ∷ entry (write 2 6) ∷ entry (write 1 4) ∷ [])
    ∷ (entry (write 0 5) ∷ entry (write 2 6) ∷ mark ∷ entry (write 1 4) ∷ [])
    ∷ (entry (write 0 5) ∷ mark ∷ entry (write 2 6) ∷ entry (write 1 4) ∷ mark ∷ [])
    ∷ []
listed_holds = refl

-- SS with nothing pending, behind an entry, and right after another mark
ss_holds :
    map pass_ss ([] ∷ (entry (release 0) ∷ []) ∷ (entry (release 0) ∷ mark ∷ []) ∷ [])
    ≡ [] ∷ (entry (release 0) ∷ mark ∷ []) ∷ (entry (release 0) ∷ mark ∷ []) ∷ []
ss_holds = refl

-- a list in which the third entry has the location of the first, and one with a mark behind the first
abbrev again : List EntryOrMark
again = entry (write 0 5) ∷ entry (write 2 6) ∷ entry (write 0 4) ∷ []

abbrev parted : List EntryOrMark
parted = entry (write 0 5) ∷ mark ∷ entry (write 2 6) ∷ []

behind_holds : map (λ i. mark_behind i parted) (0 ∷ 1 ∷ []) ≡ true ∷ false ∷ []
behind_holds = refl

leave_holds :
    may_leave 0 (write 0 5) again ∷ may_leave 1 (write 2 6) again ∷ may_leave 2 (write 0 4) again
    ∷ may_leave 0 (write 0 5) parted ∷ may_leave 1 (write 2 6) parted ∷ []
    ≡ true ∷ true ∷ false ∷ true ∷ false ∷ []
leave_holds = refl

removed_holds :
    map vanish (removed 1 again ∷ removed 0 parted ∷ [])
    ≡ (entry (write 0 5) ∷ entry (write 0 4) ∷ []) ∷ (entry (write 2 6) ∷ []) ∷ []
removed_holds = refl

-- ## runs

-- message passing: lane 0 writes data, location 0, and then the flag, location 1; lane 1 reads the flag and then data
abbrev passing : ℕ → Program
passing mask = record {
  locations = 2;
  locks = 0;
  mask = mask;
  records = (1 ∷ 2 ∷ 3 ∷ []) ∷ (4 ∷ 5 ∷ []) ∷ [];
  lanes = (Set 0 1 ∷ Store 0 0 ∷ Store 0 1 ∷ []) ∷ (Load 0 1 ∷ Load 1 0 ∷ []) ∷ [];
}

-- number, moves done and waited, the marks of lane 0, what lane 1 loaded, memory
abbrev ends : Answer → ℕ × ℕ × ℕ × ℕ × List ℕ × List ℕ
ends a =
    (number_in a.refusal, a.done, a.waited, (lane_at a.state 0).control.marks, map (λ l. l.value) a.row, a.state.memory)

-- both stores, and the flag's commit before that of data; lane 1 loads
abbrev overtaking : List Move
overtaking = move 0 0 ∷ move 0 0 ∷ move 0 0 ∷ move 0 2 ∷ move 1 0 ∷ move 1 0 ∷ []

-- with a volatile flag an SS stands between the stores, and a move more passes it
abbrev held : List Move
held = move 0 0 ∷ overtaking

runs : List (ℕ × ℕ × ℕ × ℕ × List ℕ × List ℕ)
runs =
    -- a plain flag is seen before data is
    ends (run_program (Target Pso) (passing 0) overtaking)
    -- a volatile one is not: its commit waits behind the mark; choice 1 commits data, and the mark vanishes
    ∷ ends (run_program (Target Pso) (passing 2) held)
    ∷ ends (run_program (Target Pso) (passing 2) (move 0 0 ∷ move 0 0 ∷ move 0 0 ∷ move 0 0 ∷ move 0 1 ∷ move 0 1 ∷ []))
    -- a choice of 64 waits, one of 65 is refused
    ∷ ends (run_program (Target Pso) (passing 0) (move 0 64 ∷ []))
    ∷ ends (run_program (Target Pso) (passing 0) (move 0 65 ∷ []))
    ∷ []

runs_hold :
    runs
    ≡ (0, 6, 0, 0, 1 ∷ 0 ∷ [], 0 ∷ 1 ∷ [])
    ∷ (0, 6, 1, 1, 0 ∷ 0 ∷ [], 0 ∷ 0 ∷ [])
    ∷ (0, 6, 0, 0, [], 1 ∷ 1 ∷ [])
    ∷ (0, 0, 1, 0, [], 0 ∷ 0 ∷ [])
    ∷ (10, 0, 0, 0, [], 0 ∷ 0 ∷ [])
    ∷ []
unfolding runs read_sheet sheet_bytes stands due due_after
runs_hold = refl
