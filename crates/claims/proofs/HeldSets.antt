-- The held sets of an accepted lane, as flags: is lock l held on the way to position p.
use mathlib.Core.Path.{◌≡◌, refl, ap, ◌∙◌, sym}
use mathlib.Core.Bool.{Bool, true, false, not, ◌&&◌, ◌||◌, beq}
use mathlib.Core.List.{List, [], ◌∷◌}
use mathlib.Core.Option.{none, some}
use Prim.Native.Nat.{ℕ, zero, suc, ◌≤◌, ◌<◌}
use native.Mathlib.Omega.{arith}
use native.Mathlib.Decide.{ℕ_discrete, dec_lt}
use lib.Dec.{eqb}
use borrow.Author.Tests.{eq-eqb, ne_eqb}
use lib.ListN.{length, get_or, get_elem?, take, set, get_or-eq_default}
use lib.Seq.{get_or-set_same, get_or-set_other, take_all, take-length}
use Rattle.laws.proofs.Bools.{beq_true}
use Rattle.laws.proofs.Lists.{at_some, getD-replicate-all}
use Rattle.file_format.specs.declared.accepted.Op.{Op}
use Rattle.file_format.specs.declared.accepted.Op.TheVariants.{Set, Add, Load, Store, Lock, Unlock, Skip}
use Rattle.file_format.specs.Held.{no_locks, same, after, held_from, held}
use Rattle.file_format.proofs.Laws.Search.{all_at}
use Rattle.file_format.proofs.Laws.Held.{held_length, held_next}
use Rattle.file_format.specs.Lawful.{LawfulLane}

-- is l held after an operation, b telling whether it was before
abbrev pub held_after : Op → ℕ → Bool → Bool
held_after (Set a c) l b = b
held_after (Add a c) l b = b
held_after (Load a x) l b = b
held_after (Store a x) l b = b
held_after (Lock k) l b = eqb k l || b
held_after (Unlock k) l b = not (eqb k l) && b
held_after (Skip a t) l b = b

-- holding p l: is lock l held on the way to position p, the same by every way; n locks
pub record Disciplined (n : ℕ) (os : List Op) (holding : ℕ → ℕ → Bool) : Type 0 where
  pub starts : (l : ℕ) → holding 0 l ≡ false
  pub takes : (p l : ℕ) → get_elem? os p ≡ some (Lock l) → l < n
  pub frees : (p l : ℕ) → get_elem? os p ≡ some (Unlock l) → holding p l ≡ true
  pub onward : (p : ℕ) (o : Op) → get_elem? os p ≡ some o → (l : ℕ) → holding (suc p) l ≡ held_after o l (holding p l)
  pub jumps : (p a t : ℕ) → get_elem? os p ≡ some (Skip a t) → (l : ℕ) → holding t l ≡ holding p l
  pub ends : (p l : ℕ) → get_elem? os p ≡ none → holding p l ≡ false
  pub rising : (p b l : ℕ) → get_elem? os p ≡ some (Lock b) → holding p l ≡ true → l < b

abbrev pub held_at : List Op → ℕ → ℕ → Bool
held_at os p l = get_or (held os p) l false

-- the lock an operation uses is one of the four
abbrev LockBelow : ℕ → Op → Type 0
LockBelow n (Set a c) = Unit {0}
LockBelow n (Add a c) = Unit {0}
LockBelow n (Load a x) = Unit {0}
LockBelow n (Store a x) = Unit {0}
LockBelow n (Lock k) = k < n
LockBelow n (Unlock k) = k < n
LockBelow n (Skip a t) = Unit {0}

flag_after : (h : List Bool) (o : Op) (l : ℕ) → LockBelow (length h) o
    → get_or (after h o) l false ≡ held_after o l (get_or h l false)
flag_after h (Set a c) l w = refl
flag_after h (Add a c) l w = refl
flag_after h (Load a x) l w = refl
flag_after h (Store a x) l w = refl
flag_after h (Lock k) l w = go (ℕ_discrete l k)
  where
    go : Dec (l ≡ k) → get_or (set h k true) l false ≡ eqb k l || get_or h l false
    go (yes e) = rw (e, eq-eqb k k refl) (get_or-set_same h k true false w)
    go (no n) = rw (ne_eqb k l (λ z. n (sym z))) (get_or-set_other h k l true false n)
flag_after h (Unlock k) l w = go (ℕ_discrete l k)
  where
    go : Dec (l ≡ k) → get_or (set h k false) l false ≡ not (eqb k l) && get_or h l false
    go (yes e) = rw (e, eq-eqb k k refl) (get_or-set_same h k false false w)
    go (no n) = rw (ne_eqb k l (λ z. n (sym z))) (get_or-set_other h k l false false n)
flag_after h (Skip a t) l w = refl

abbrev flags : List Bool → List Bool → List Bool
flags h g =
    beq (get_or h 0 false) (get_or g 0 false) ∷ beq (get_or h 1 false) (get_or g 1 false)
    ∷ beq (get_or h 2 false) (get_or g 2 false) ∷ beq (get_or h 3 false) (get_or g 3 false)
    ∷ []

-- sets that are the same have the same flags
same_flag : (h g : List Bool) → length h ≡ 4 → length g ≡ 4 → same h g ≡ true → (l : ℕ)
    → get_or h l false ≡ get_or g l false
unfolding same
same_flag h g lh lg e zero = beq_true _ _ (all_at (flags h g) 0 e)
same_flag h g lh lg e (suc zero) = beq_true _ _ (all_at (flags h g) 1 e)
same_flag h g lh lg e (suc (suc zero)) = beq_true _ _ (all_at (flags h g) 2 e)
same_flag h g lh lg e (suc (suc (suc zero))) = beq_true _ _ (all_at (flags h g) 3 e)
same_flag h g lh lg e (suc (suc (suc (suc l)))) =
    get_or-eq_default h false {n = suc (suc (suc (suc l)))} (omega arith)
    ∙ sym (get_or-eq_default g false {n = suc (suc (suc (suc l)))} (omega arith))

none_held : (l : ℕ) → get_or no_locks l false ≡ false
none_held = getD-replicate-all (λ b. b ≡ false) 4 false false refl refl

start_free : (os : List Op) (l : ℕ) → held_at os 0 l ≡ false
unfolding held_from
start_free os = none_held

-- past the last operation the set is the one at the end
held_beyond : (os : List Op) (p : ℕ) → get_elem? os p ≡ none → held os p ≡ held os (length os)
held_beyond os p e = ap (held_from no_locks) (take_all p os (past (dec_lt p (length os))) ∙ sym (take-length os))
  where
    past : Dec (p < length os) → length os ≤ p
    past (no ge) = omega arith
    past (yes lt) =
        let z : ◌≡◌ {A = ℕ} 0 1 = cc (at_some os p (Skip 0 0) lt) in
        absurd (omega arith)

pub lane_disciplined : (ls ks : ℕ) (os : List Op) → ks ≤ 4 → LawfulLane ls ks os → Disciplined ks os (held_at os)
lane_disciplined ls ks os few w = record {
  starts = start_free os;
  takes = λ p l e. w.bounded p (Lock l) e;
  frees = λ p l e. w.disciplined p (Unlock l) e;
  onward = λ p o e l. ap (λ h. get_or h l false) (held_next no_locks os p o e)
      ∙ flag_after (held_from no_locks (take p os)) o l (below o p e);
  jumps = λ p a t e l. sym
      (same_flag (held_from no_locks (take p os)) (held_from no_locks (take t os)) (held_length no_locks (take p os))
      (held_length no_locks (take t os)) (w.disciplined p (Skip a t) e) l);
  ends = λ p l e. ap (λ h. get_or h l false) (held_beyond os p e)
      ∙ same_flag (held os (length os)) no_locks (held_length no_locks (take (length os) os)) refl w.released l
      ∙ none_held l;
  rising = w.rising;
}
  where
    below : (o : Op) (p : ℕ) → get_elem? os p ≡ some o → LockBelow (length (held_from no_locks (take p os))) o
    below (Set a c) p e = tt
    below (Add a c) p e = tt
    below (Load a x) p e = tt
    below (Store a x) p e = tt
    below (Lock k) p e = let z : k < ks = w.bounded p (Lock k) e in omega (arith, held_length no_locks (take p os))
    below (Unlock k) p e = let z : k < ks = w.bounded p (Unlock k) e in omega (arith, held_length no_locks (take p os))
    below (Skip a t) p e = tt
