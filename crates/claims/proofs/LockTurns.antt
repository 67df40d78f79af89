-- A turn of a lane that keeps the held-set rule keeps its claims of the locks, and is not refused.
use mathlib.Core.Path.{◌≡◌, refl}
use mathlib.Core.Bool.{Bool, true, false, not, ◌&&◌, cond}
use mathlib.Core.List.{List, [], ◌∷◌, ◌++◌, map}
use mathlib.Core.Option.{Option, none, some}
use Prim.Native.Nat.{ℕ, zero, suc, ◌+◌}
use native.Mathlib.Omega.{arith}
use lib.Dec.{eqb}
use borrow.Author.Tests.{eqb-true}
use lib.ListN.{length, get_or, get_elem?, take}
use Rattle.laws.proofs.Bools.{and_true}
use Rattle.laws.proofs.Lists.{getElem?-map}
use Rattle.file_format.specs.declared.accepted.Op.{Op}
use Rattle.file_format.specs.declared.accepted.Op.TheVariants.{Set, Add, Load, Store, Lock, Unlock, Skip}
use Rattle.sheet_format.specs.Layout.{op}
use Rattle.machine_spec.specs.Entries.{Entry, write, release, any_sync, without}
use Rattle.machine_spec.specs.declared.Machine.TheVariants.{Source}
use Rattle.machine_spec.specs.Rules.{may_commit}
use Rattle.machine_spec.specs.Step.{Control, Core, Turn, waits, refuses, passes, does, reg, permits, holds, next}
use Rattle.machine_spec.specs.Step.{core_after, effect, execute, settle, committed, commit, turn}
use Rattle.claims.proofs.HeldSets.{Disciplined}
use Rattle.claims.proofs.LockClaims.{one, releases, releases_snoc, releases_without, claim, Claims, Kept}
use Rattle.claims.proofs.LockClaims.{claimed_word, unchanged, taken, let_go}

-- no turn of the source machine is refused, and none passes a barrier
abbrev pub Sound : (n : ℕ) → (ℕ → ℕ → Bool) → ℕ → List ℕ → Turn → Type 0
Sound n held t locks waits = Unit {0}
Sound n held t locks refuses = ⊥
Sound n held t locks (passes j d) = ⊥
Sound n held t locks (does j d v) = Kept n (held j.pos) t locks d

module _ (n : ℕ) (os : List Op) (held : ℕ → ℕ → Bool) (D : Disciplined n os held) (vol : ℕ → Bool) (t : ℕ)
    (i : Control) (c : Core) (len : length c.locks ≡ n)
    (h : Claims (held i.pos) t c.pending c.locks) where
  -- an operation that neither takes nor frees
  plain : (p : ℕ) (d : Core) → ((l : ℕ) → held p l ≡ held i.pos l)
      → ((l : ℕ) → releases l d.pending ≡ releases l c.pending) → d.locks ≡ c.locks
      → Kept n (held p) t c.locks d
  plain p d e r k =
      unchanged n t c.pending c.locks len (held i.pos) h (held p) d (λ l. rw (e l, r l)) k

  -- an operation that is carried out, at the position and with the core after it
  op_kept : (o : Op) → get_elem? os i.pos ≡ some o → permits Source vol c o ≡ true
      → Kept n (held (next c o i.pos)) t c.locks (core_after Source vol (suc t) c o)
  op_kept (Set a m) e may = plain (suc i.pos) _ (D.onward i.pos (Set a m) e) (λ l. refl) refl
  op_kept (Add a b) e may = plain (suc i.pos) _ (D.onward i.pos (Add a b) e) (λ l. refl) refl
  op_kept (Load a x) e may = plain (suc i.pos) _ (D.onward i.pos (Load a x) e) (λ l. refl) refl
  op_kept (Store a x) e may =
      plain (suc i.pos) _ (D.onward i.pos (Store a x) e)
      (λ l. omega (arith, releases_snoc l c.pending (write x (reg c a)))) refl
  op_kept (Lock k) e may =
      let free =
      eqb-true (get_or c.locks k 0) 0
      (and_true (not (any_sync vol c.pending)) (eqb (get_or c.locks k 0) 0) may).1 in
      taken n t c.pending c.locks len (held i.pos) h (held (suc i.pos)) k _ (D.onward i.pos (Lock k) e)
      (D.takes i.pos k e) free refl refl
  op_kept (Unlock k) e may =
      unchanged n t c.pending c.locks len (held i.pos) h (held (suc i.pos)) _ moved refl
    where
      -- the claim passes from the held set to the pending release
      moved : (l : ℕ) → claim (held (suc i.pos) l) (c.pending ++ (release k ∷ [])) l
          ≡ claim (held i.pos l) c.pending l
      moved l =
          rw (D.onward i.pos (Unlock k) e l, releases_snoc l c.pending (release k)) (go (eqb k l) refl)
        where
          go : (b : Bool) → eqb k l ≡ b
              → one (not (eqb k l) && held i.pos l) + (releases l c.pending + one (eqb k l))
              ≡ one (held i.pos l) + releases l c.pending
          go true j =
              let at-k : held i.pos l ≡ true = rw (← eqb-true k l j) (D.frees i.pos k e) in
              rw (j, at-k) (omega arith)
          go false j = rw j (omega arith)
  op_kept (Skip a u) e may = go (eqb (reg c a) 0)
    where
      go : (b : Bool) → Kept n (held (cond b u (suc i.pos))) t c.locks c
      go true = plain u c (D.jumps i.pos a u e) (λ l. refl) refl
      go false = plain (suc i.pos) c (D.onward i.pos (Skip a u) e) (λ l. refl) refl

  -- an UNLOCK finds its own word
  op_holds : (o : Op) → get_elem? os i.pos ≡ some o → holds (suc t) c o ≡ true
  op_holds (Set a m) e = refl
  op_holds (Add a b) e = refl
  op_holds (Load a x) e = refl
  op_holds (Store a x) e = refl
  op_holds (Lock k) e = refl
  op_holds (Unlock k) e =
      let has = D.frees i.pos k e in
      claimed_word n t c.pending c.locks len (held i.pos) h k (rw has (omega arith))
  op_holds (Skip a u) e = refl

  effect_sound : (o : Op) → get_elem? os i.pos ≡ some o → permits Source vol c o ≡ true
      → Sound n held t c.locks (effect Source vol (suc t) i c o)
  effect_sound o e may = rw (op_holds o e) (op_kept o e may)

  commit_sound : (x : ℕ) (e : Option Entry) → get_elem? c.pending x ≡ e
      → Sound n held t c.locks (commit Source vol i c x e)
  commit_sound x none k = tt
  commit_sound x (some e) k = go (may_commit Source vol i.marks (take x c.pending) e) e k
    where
      go : (b : Bool) (e : Entry) → get_elem? c.pending x ≡ some e
          → Sound n held t c.locks (cond b (does (committed i) (settle c (without x c.pending) e) none) waits)
      go false e k = tt
      go true (write y v) k =
          plain i.pos _ (λ l. refl) (λ l. omega (arith, releases_without l x c.pending (write y v) k)) refl
      go true (release m) k =
          let_go n t c.pending c.locks len (held i.pos) h m _
          (λ l. releases_without l x c.pending (release m) k) refl

  pub turn_sound : (k : ℕ) → Sound n held t c.locks (turn Source vol (suc t) (map op os) i c k)
  turn_sound zero = go (get_elem? os i.pos) refl
    where
      act : (o : Op) → get_elem? os i.pos ≡ some o → (b : Bool) → permits Source vol c o ≡ b
          → Sound n held t c.locks (cond (permits Source vol c o) (effect Source vol (suc t) i c o) waits)
      act o e true may = rw may (effect_sound o e may)
      act o e false may = rw may tt

      go : (o : Option Op) → get_elem? os i.pos ≡ o
          → Sound n held t c.locks (execute Source vol (suc t) i c (get_elem? (map op os) i.pos))
      go none e = rw (getElem?-map op os i.pos, e) tt
      go (some o) e = rw (getElem?-map op os i.pos, e) (act o e (permits Source vol c o) refl)
  turn_sound (suc x) = commit_sound x (get_elem? c.pending x) refl
