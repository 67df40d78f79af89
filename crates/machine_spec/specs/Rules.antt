-- The six functions that tell the machines apart.
use Rattle.std.specs.Prelude.{Bool, true, false, not, ◌&&◌, cond, List, ℕ, length}
use Rattle.barrier_placement.specs.declared.cookbook.Barrier.{Barrier}
use Rattle.barrier_placement.specs.declared.cookbook.Barrier.TheVariants.{LL, LS, SS, SL}
use Rattle.machine_spec.specs.declared.Machine.{Machine}
use Rattle.machine_spec.specs.declared.Machine.TheVariants.{Source, Target}
use Rattle.machine_spec.specs.declared.Model.TheVariants.{Tso, Pso}
use Rattle.machine_spec.specs.Entries.{Entry, is_sync, any_sync, is_nil, any_same, newest}
use Rattle.machine_spec.specs.Marks.{no_mark}

-- May an entry commit, with the marks ks in the list and these older entries before it? Source: a plain store when no
-- older entry has its location; a volatile store or UNLOCK only as the oldest. Tso: only the oldest. Pso: when no older
-- entry has the same location or lock and no mark is older.
abbrev pub may_commit : Machine → (ℕ → Bool) → ℕ → List Entry → Entry → Bool
may_commit Source vol ks older e = cond (is_sync vol e) (is_nil older) (not (any_same e older))
may_commit (Target Tso) vol ks older e = is_nil older
may_commit (Target Pso) vol ks older e = no_mark (length older) ks && not (any_same e older)

-- The value that a LOAD of x takes, m being the memory's: the newest own pending one, else memory's. A volatile LOAD of
-- the source machine reads memory.
abbrev pub sees : Machine → (ℕ → Bool) → List Entry → ℕ → ℕ → ℕ
sees Source vol es x m = cond (vol x) m (newest x m es)
sees (Target k) vol es x m = newest x m es

-- May a LOAD of x be carried out? A volatile one of the source machine needs no pending volatile store or UNLOCK.
abbrev pub may_load : Machine → (ℕ → Bool) → List Entry → ℕ → Bool
may_load Source vol es x = not (vol x && any_sync vol es)
may_load (Target k) vol es x = true

-- May a LOCK of a free lock be carried out? Source: no pending volatile store or UNLOCK. A target: an empty list.
abbrev pub may_lock : Machine → (ℕ → Bool) → List Entry → Bool
may_lock Source vol es = not (any_sync vol es)
may_lock (Target k) vol es = is_nil es

-- May a barrier be passed? SL, which MFENCE stands for, needs an empty list. The source machine's kernel has none.
abbrev pub may_pass : Machine → Barrier → List Entry → Bool
may_pass Source b es = true
may_pass (Target k) LL es = true
may_pass (Target k) LS es = true
may_pass (Target k) SS es = true
may_pass (Target k) SL es = is_nil es

-- Does a barrier that is passed leave a mark? SS of the pso machine does.
abbrev pub leaves_mark : Machine → Barrier → Bool
leaves_mark Source b = false
leaves_mark (Target Tso) b = false
leaves_mark (Target Pso) LL = false
leaves_mark (Target Pso) LS = false
leaves_mark (Target Pso) SS = true
leaves_mark (Target Pso) SL = false
