-- A turn of the source machine keeps the bounds of a lane's core and position.
use mathlib.Core.Path.{◌≡◌, refl, ◌∙◌, subst}
use mathlib.Core.Bool.{Bool, true, false, cond}
use mathlib.Core.List.{List, [], ◌∷◌, ◌++◌, map}
use mathlib.Core.Option.{Option, none, some}
use Prim.Native.Nat.{ℕ, zero, suc, ◌^◌, ◌≤◌, ◌<◌}
use native.Mathlib.Omega.{arith}
use lib.Dec.{eqb}
use lib.ListN.{length, get_or, get_elem?, take, length-set, set as update}
use Rattle.laws.proofs.Bools.{cond_by}
use Rattle.laws.proofs.Lists.{some_at, getElem?-map, set_all}
use Rattle.file_format.specs.declared.accepted.Op.{Op}
use Rattle.file_format.specs.declared.accepted.Op.TheVariants.{Set, Add, Load, Store, Lock, Unlock, Skip}
use Rattle.file_format.specs.Lawful.{LawfulLane}
use Rattle.sheet_format.specs.Layout.{op}
use Rattle.machine_spec.specs.Entries.{Entry, write, release, newest, append_entry, without}
use Rattle.machine_spec.specs.declared.Machine.TheVariants.{Source}
use Rattle.machine_spec.specs.Rules.{may_commit}
use Rattle.machine_spec.specs.Step.{Control, Core, Turn, waits, refuses, passes, does, goto, reg, permits, holds}
use Rattle.machine_spec.specs.Step.{value_of}
use Rattle.machine_spec.specs.Step.{loads, after, next, emit, locked, core_after, effect, execute, landed, freed}
use Rattle.machine_spec.specs.Step.{settle}
use Rattle.machine_spec.specs.Step.{committed, commit, turn}
use Rattle.machine_spec.specs.Shape.{EntrySmall, AllSmall}
use Rattle.claims.proofs.Laws.Pending.{length_append_entry, length_without}

-- ## pending lists

module _ (ls ks : ℕ) where
  all_snoc : (es : List Entry) (e : Entry) → AllSmall ls ks es → EntrySmall ls ks e → AllSmall ls ks (es ++ (e ∷ []))
  all_snoc [] e h p = (p, tt)
  all_snoc (x ∷ es) e h p = (h.0, all_snoc es e h.1 p)

  all_without : (i : ℕ) (es : List Entry) → AllSmall ls ks es → AllSmall ls ks (without i es)
  all_without zero [] h = tt
  all_without (suc i) [] h = tt
  all_without zero (x ∷ es) h = h.1
  all_without (suc i) (x ∷ es) h = (h.0, all_without i es h.1)

  all_at : (i : ℕ) (es : List Entry) (e : Entry) → get_elem? es i ≡ some e → AllSmall ls ks es → EntrySmall ls ks e
  all_at i [] e k h = let z : ◌≡◌ {A = ℕ} 0 1 = cc in absurd (omega arith)
  all_at zero (x ∷ es) e k h = let same : x ≡ e = cc in subst (EntrySmall ls ks) same h.0
  all_at (suc i) (x ∷ es) e k h = all_at i es e k h.1

  newest_small : (x m : ℕ) (es : List Entry) → m < 2 ^ 32 → AllSmall ls ks es → newest x m es < 2 ^ 32
  newest_small x m [] hm h = hm
  newest_small x m (write y v ∷ es) hm h = newest_small x (cond (eqb y x) v m) es (go (eqb y x)) h.1
    where
      go : (b : Bool) → cond b v m < 2 ^ 32
      go true = h.0.1
      go false = hm
  newest_small x m (release l ∷ es) hm h = newest_small x m es hm h.1

-- ## a lane's move

-- of n lanes, ls locations and ks locks: a lane of len operations at position p; its pending entries are no more than
-- the operations before p
pub record Fit (n ls ks len : ℕ) (p : ℕ) (c : Core) : Type 0 where
  pub place : p ≤ len
  pub few : length c.pending ≤ p
  pub regs_count : length c.regs ≡ 8
  pub regs_small : (a : ℕ) → get_or c.regs a 0 < 2 ^ 32
  pub entries : AllSmall ls ks c.pending
  pub memory_count : length c.memory ≡ ls
  pub memory_small : (x : ℕ) → get_or c.memory x 0 < 2 ^ 32
  pub locks_count : length c.locks ≡ ks
  pub locks_small : (l : ℕ) → get_or c.locks l 0 ≤ n

abbrev pub Keeps : ℕ → ℕ → ℕ → ℕ → Turn → Type 0
Keeps n ls ks len waits = Unit {0}
Keeps n ls ks len refuses = Unit {0}
Keeps n ls ks len (passes j d) = Fit n ls ks len j.pos d
Keeps n ls ks len (does j d v) = Fit n ls ks len j.pos d

module _ (n ls ks : ℕ) (os : List Op) (w : LawfulLane ls ks os) (vol : ℕ → Bool) (t : ℕ) (lt : t < n) (i : Control)
    (c : Core) (h : Fit n ls ks (length os) i.pos c) where
  abbrev At : Op → Type 0
  At o = get_elem? os i.pos ≡ some o

  value_small : (x : ℕ) → value_of Source vol c x < 2 ^ 32
  value_small x =
      let m = get_or c.memory x 0 in
      cond_by (λ v. v < 2 ^ 32) (vol x) m (newest x m c.pending) (λ e. h.memory_small x)
      (λ e. newest_small ls ks x m c.pending (h.memory_small x) h.entries)

  -- the registers
  after_count : (o : Op) → length (after Source vol c o) ≡ 8
  after_count (Set a m) = simp length-set h.regs_count
  after_count (Add a b) = simp length-set h.regs_count
  after_count (Load a x) = simp length-set h.regs_count
  after_count (Store a x) = h.regs_count
  after_count (Lock l) = h.regs_count
  after_count (Unlock l) = h.regs_count
  after_count (Skip a u) = h.regs_count

  assigned : (a v : ℕ) → v < 2 ^ 32 → (x : ℕ) → get_or (update c.regs a v) x 0 < 2 ^ 32
  assigned a v small = set_all (λ i z. z < 2 ^ 32) 0 c.regs a v h.regs_small small

  after_small : (o : Op) → At o → (x : ℕ) → get_or (after Source vol c o) x 0 < 2 ^ 32
  after_small (Set a m) e = assigned a m (w.bounded i.pos (Set a m) e).1
  after_small (Add a b) e = assigned a _ (omega arith)
  after_small (Load a x) e = assigned a _ (value_small x)
  after_small (Store a x) e = h.regs_small
  after_small (Lock l) e = h.regs_small
  after_small (Unlock l) e = h.regs_small
  after_small (Skip a u) e = h.regs_small

  -- the position goes on, at most to the end
  next_within : (o : Op) → At o → (i.pos < next c o i.pos) × (next c o i.pos ≤ length os)
  next_within o e = go o e (some_at os i.pos o (Set 0 0) e).0
    where
      go : (o : Op) → At o → i.pos < length os → (i.pos < next c o i.pos) × (next c o i.pos ≤ length os)
      go (Set a m) e inside = (omega arith, inside)
      go (Add a b) e inside = (omega arith, inside)
      go (Load a x) e inside = (omega arith, inside)
      go (Store a x) e inside = (omega arith, inside)
      go (Lock l) e inside = (omega arith, inside)
      go (Unlock l) e inside = (omega arith, inside)
      go (Skip a u) e inside = jump (eqb (reg c a) 0)
        where
          jump : (b : Bool) → (i.pos < cond b u (suc i.pos)) × (cond b u (suc i.pos) ≤ length os)
          jump true = let x = w.bounded i.pos (Skip a u) e in (x.1, x.2)
          jump false = (omega arith, inside)

  -- the pending list
  emit_small : (o : Op) → At o → AllSmall ls ks (append_entry c.pending (emit c o))
  emit_small (Set a m) e = h.entries
  emit_small (Add a b) e = h.entries
  emit_small (Load a x) e = h.entries
  emit_small (Store a x) e =
      all_snoc ls ks c.pending (write x (reg c a)) h.entries
      ((w.bounded i.pos (Store a x) e).1, h.regs_small a)
  emit_small (Lock l) e = h.entries
  emit_small (Unlock l) e =
      all_snoc ls ks c.pending (release l) h.entries (w.bounded i.pos (Unlock l) e)
  emit_small (Skip a u) e = h.entries

  -- the lock words
  locked_count : (o : Op) → length (locked (suc t) c o) ≡ ks
  locked_count (Set a m) = h.locks_count
  locked_count (Add a b) = h.locks_count
  locked_count (Load a x) = h.locks_count
  locked_count (Store a x) = h.locks_count
  locked_count (Lock l) = length-set c.locks l (suc t) ∙ h.locks_count
  locked_count (Unlock l) = h.locks_count
  locked_count (Skip a u) = h.locks_count

  locked_small : (o : Op) (l : ℕ) → get_or (locked (suc t) c o) l 0 ≤ n
  locked_small (Set a m) = h.locks_small
  locked_small (Add a b) = h.locks_small
  locked_small (Load a x) = h.locks_small
  locked_small (Store a x) = h.locks_small
  locked_small (Lock k) = set_all (λ i z. z ≤ n) 0 c.locks k (suc t) h.locks_small lt
  locked_small (Unlock l) = h.locks_small
  locked_small (Skip a u) = h.locks_small

  op_fit : (o : Op) → At o → Fit n ls ks (length os) (next c o i.pos) (core_after Source vol (suc t) c o)
  op_fit o e = record {
    place = (next_within o e).1;
    few = omega (arith, h.few, length_append_entry c.pending (emit c o), (next_within o e).0);
    regs_count = after_count o;
    regs_small = after_small o e;
    entries = emit_small o e;
    memory_count = h.memory_count;
    memory_small = h.memory_small;
    locks_count = locked_count o;
    locks_small = locked_small o;
  }

  -- memory and the lock words after a commit
  landed_fit : (e : Entry) → EntrySmall ls ks e
      → (length (landed c.memory e) ≡ ls) × ((x : ℕ) → get_or (landed c.memory e) x 0 < 2 ^ 32)
  landed_fit (write y v) small = (
    length-set c.memory y v ∙ h.memory_count,
    set_all (λ i z. z < 2 ^ 32) 0 c.memory y v h.memory_small small.1,
  )
  landed_fit (release l) small = (h.memory_count, h.memory_small)

  freed_fit : (e : Entry) → (length (freed c.locks e) ≡ ks) × ((l : ℕ) → get_or (freed c.locks e) l 0 ≤ n)
  freed_fit (write y v) = (h.locks_count, h.locks_small)
  freed_fit (release l) = (
    length-set c.locks l 0 ∙ h.locks_count,
    set_all (λ i z. z ≤ n) 0 c.locks l 0 h.locks_small (omega arith),
  )

  settle_fit : (x : ℕ) (e : Entry) → get_elem? c.pending x ≡ some e
      → Fit n ls ks (length os) i.pos (settle c (without x c.pending) e)
  settle_fit x e k = record {
    place = h.place;
    few = omega (arith, h.few, length_without c.pending x e k);
    regs_count = h.regs_count;
    regs_small = h.regs_small;
    entries = all_without ls ks x c.pending h.entries;
    memory_count = (landed_fit e small).0;
    memory_small = (landed_fit e small).1;
    locks_count = (freed_fit e).0;
    locks_small = (freed_fit e).1;
  }
    where
      small : EntrySmall ls ks e
      small = all_at ls ks x c.pending e k h.entries

  pub turn_keeps : (k : ℕ) → Keeps n ls ks (length os) (turn Source vol (suc t) (map op os) i c k)
  turn_keeps zero = go (get_elem? os i.pos) refl
    where
      done : (o : Op) → At o → (b : Bool)
          → Keeps n ls ks (length os)
          (cond b (does (goto i (next c o i.pos)) (core_after Source vol (suc t) c o) (loads Source vol c o)) refuses)
      done o e true = op_fit o e
      done o e false = tt

      act : (o : Op) → At o → (b : Bool)
          → Keeps n ls ks (length os) (cond b (effect Source vol (suc t) i c o) waits)
      act o e true = done o e (holds (suc t) c o)
      act o e false = tt

      go : (o : Option Op) → get_elem? os i.pos ≡ o
          → Keeps n ls ks (length os) (execute Source vol (suc t) i c (get_elem? (map op os) i.pos))
      go none e = rw (getElem?-map op os i.pos, e) tt
      go (some o) e = rw (getElem?-map op os i.pos, e) (act o e (permits Source vol c o))
  turn_keeps (suc x) = go (get_elem? c.pending x) refl
    where
      act : (e : Entry) → get_elem? c.pending x ≡ some e → (b : Bool)
          → Keeps n ls ks (length os) (cond b (does (committed i) (settle c (without x c.pending) e) none) waits)
      act e k true = settle_fit x e k
      act e k false = tt

      go : (e : Option Entry) → get_elem? c.pending x ≡ e → Keeps n ls ks (length os) (commit Source vol i c x e)
      go none k = tt
      go (some e) k = act e k (may_commit Source vol i.marks (take x c.pending) e)
