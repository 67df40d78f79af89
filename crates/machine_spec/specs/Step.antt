-- One lane's move: it carries out the next instruction, or commits a pending entry.
use Rattle.std.specs.Prelude.{Bool, true, ◌&&◌, cond, List, ℕ, zero, suc, ◌+◌, ◌%◌, ◌^◌, eqb, length, get_or, take}
use Rattle.std.specs.Prelude.{set as update}
use Rattle.std.proofs.Math.Option.{Option, none, some}
use Rattle.std.proofs.Math.ListN.{get_elem?}
use Rattle.file_format.specs.declared.accepted.Op.{Op}
use Rattle.file_format.specs.declared.accepted.Op.TheVariants.{Set, Add, Load, Store, Lock, Unlock, Skip}
use Rattle.barrier_placement.specs.declared.cookbook.Barrier.{Barrier}
use Rattle.sheet_format.specs.Layout.{Instr, op, barrier}
use Rattle.machine_spec.specs.Entries.{Entry, write, release, append_entry, without}
use Rattle.machine_spec.specs.Marks.{after_ss, after_commit}
use Rattle.machine_spec.specs.declared.Machine.{Machine}
use Rattle.machine_spec.specs.Rules.{may_commit, sees, may_load, may_lock, may_pass, leaves_mark}

-- where a lane stands, and the marks in its pending list; the machines differ in it
pub record Control : Type 0 where
  pub pos : ℕ
  pub marks : ℕ

-- what else a lane's move reads and writes; it is compared
pub record Core : Type 0 where
  pub regs : List ℕ
  pub pending : List Entry
  pub memory : List ℕ
  pub locks : List ℕ

-- what a move comes to: it is not permitted; it is an UNLOCK of a lock that the lane does not hold; it passes a
-- barrier; it is done, with the value that a LOAD took
pub data Turn : Type 0 where
  waits : Turn
  refuses : Turn
  passes : Control → Core → Turn
  does : Control → Core → Option ℕ → Turn

abbrev pub goto : Control → ℕ → Control
goto k p = record { pos = p; marks = k.marks }

abbrev pub reg : Core → ℕ → ℕ
reg c a = get_or c.regs a 0

-- ## an operation

-- may it be carried out
abbrev pub permits : Machine → (ℕ → Bool) → Core → Op → Bool
permits m vol c (Set a n) = true
permits m vol c (Add a b) = true
permits m vol c (Load a x) = may_load m vol c.pending x
permits m vol c (Store a x) = true
permits m vol c (Lock l) = may_lock m vol c.pending && eqb (get_or c.locks l 0) 0
permits m vol c (Unlock l) = true
permits m vol c (Skip a t) = true

-- an UNLOCK needs the lane's own word, w, in its lock
abbrev pub holds : ℕ → Core → Op → Bool
holds w c (Set a n) = true
holds w c (Add a b) = true
holds w c (Load a x) = true
holds w c (Store a x) = true
holds w c (Lock l) = true
holds w c (Unlock l) = eqb (get_or c.locks l 0) w
holds w c (Skip a t) = true

-- the value that a LOAD of x takes
abbrev pub value_of : Machine → (ℕ → Bool) → Core → ℕ → ℕ
value_of m vol c x = sees m vol c.pending x (get_or c.memory x 0)

-- the value that it takes into register a, where it is a LOAD
abbrev pub loads : Machine → (ℕ → Bool) → Core → Op → Option ℕ
loads m vol c (Set a n) = none
loads m vol c (Add a b) = none
loads m vol c (Load a x) = some (value_of m vol c x)
loads m vol c (Store a x) = none
loads m vol c (Lock l) = none
loads m vol c (Unlock l) = none
loads m vol c (Skip a t) = none

-- the registers after it
abbrev pub after : Machine → (ℕ → Bool) → Core → Op → List ℕ
after m vol c (Set a n) = update c.regs a n
after m vol c (Add a b) = update c.regs a ((reg c a + reg c b) % (2 ^ 32))
after m vol c (Load a x) = update c.regs a (value_of m vol c x)
after m vol c (Store a x) = c.regs
after m vol c (Lock l) = c.regs
after m vol c (Unlock l) = c.regs
after m vol c (Skip a t) = c.regs

-- the position after it, p being its own: a SKIP whose register is 0 goes to its target
abbrev pub next : Core → Op → ℕ → ℕ
next c (Set a n) p = suc p
next c (Add a b) p = suc p
next c (Load a x) p = suc p
next c (Store a x) p = suc p
next c (Lock l) p = suc p
next c (Unlock l) p = suc p
next c (Skip a t) p = cond (eqb (reg c a) 0) t (suc p)

-- the entry that it appends
abbrev pub emit : Core → Op → Option Entry
emit c (Set a n) = none
emit c (Add a b) = none
emit c (Load a x) = none
emit c (Store a x) = some (write x (reg c a))
emit c (Lock l) = none
emit c (Unlock l) = some (release l)
emit c (Skip a t) = none

-- the lock words after it: a LOCK writes its own in the same move
abbrev pub locked : ℕ → Core → Op → List ℕ
locked w c (Set a n) = c.locks
locked w c (Add a b) = c.locks
locked w c (Load a x) = c.locks
locked w c (Store a x) = c.locks
locked w c (Lock l) = update c.locks l w
locked w c (Unlock l) = c.locks
locked w c (Skip a t) = c.locks

abbrev pub core_after : Machine → (ℕ → Bool) → ℕ → Core → Op → Core
core_after m vol w c o =
    record {
      regs = after m vol c o;
      pending = append_entry c.pending (emit c o);
      memory = c.memory;
      locks = locked w c o;
    }

-- what it does where it is permitted
abbrev pub effect : Machine → (ℕ → Bool) → ℕ → Control → Core → Op → Turn
effect m vol w k c o =
    cond (holds w c o) (does (goto k (next c o k.pos)) (core_after m vol w c o) (loads m vol c o)) refuses

-- behind a barrier: the marks, and where the lane stands
abbrev pub marks_past : Machine → Barrier → List Entry → ℕ → ℕ
marks_past m b es ks = cond (leaves_mark m b) (after_ss (length es) ks) ks

abbrev pub passed : Machine → Control → Core → Barrier → Control
passed m k c b = record { pos = suc k.pos; marks = marks_past m b c.pending k.marks }

-- the instruction at the lane's position; past the last one is the end, where choice 0 waits
abbrev pub execute : Machine → (ℕ → Bool) → ℕ → Control → Core → Option Instr → Turn
execute m vol w k c none = waits
execute m vol w k c (some (op o)) = cond (permits m vol c o) (effect m vol w k c o) waits
execute m vol w k c (some (barrier b)) = cond (may_pass m b c.pending) (passes (passed m k c b) c) waits

-- ## a commit

-- memory after an entry, and the lock words after it
abbrev pub landed : List ℕ → Entry → List ℕ
landed memory (write x v) = update memory x v
landed memory (release l) = memory

abbrev pub freed : List ℕ → Entry → List ℕ
freed locks (write x v) = locks
freed locks (release l) = update locks l 0

-- the core after an entry reached memory, es being left
abbrev pub settle : Core → List Entry → Entry → Core
settle c es e =
    record { regs = c.regs; pending = es; memory = landed c.memory e; locks = freed c.locks e }

-- where the lane stands then
abbrev pub committed : Control → Control
committed k = record { pos = k.pos; marks = after_commit k.marks }

-- the entry that has i older ones
abbrev pub commit : Machine → (ℕ → Bool) → Control → Core → ℕ → Option Entry → Turn
commit m vol k c i none = waits
commit m vol k c i (some e) =
    cond (may_commit m vol k.marks (take i c.pending) e)
    (does (committed k) (settle c (without i c.pending) e) none) waits

-- choice 0 carries out the next instruction, choice k commits the k-th oldest entry
abbrev pub turn : Machine → (ℕ → Bool) → ℕ → List Instr → Control → Core → ℕ → Turn
turn m vol w prog k c zero = execute m vol w k c (get_elem? prog k.pos)
turn m vol w prog k c (suc i) = commit m vol k c i (get_elem? c.pending i)
