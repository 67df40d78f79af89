-- Laws of kernels without locks: no lane takes or frees one, so that both rules are kept.
use Prim.Native.Nat.{ℕ, zero, suc, ◌+◌, ◌-◌, ◌<◌}
use mathlib.Core.Path.{◌≡◌, refl, sym, ◌∙◌}
use mathlib.Core.List.{List, [], ◌∷◌}
use mathlib.Core.Bool.{Bool, false, cond}
use mathlib.Core.Option.{Option, none, some}
use native.Mathlib.Omega.{arith}
use lib.Dec.{eqb}
use lib.ListN.{length, get_or, get_elem?, take}
use Rattle.laws.proofs.Bools.{by_test}
use Rattle.file_format.specs.declared.accepted.Op.{Op}
use Rattle.file_format.specs.declared.accepted.Op.TheVariants.{Set, Add, Load, Store, Lock, Unlock, Skip}
use Rattle.file_format.specs.Fields.{locations, locks, head}
use Rattle.file_format.specs.Accepted.{program_of, records_at, ops_at}
use Rattle.file_format.specs.Held.{no_locks, same, after, held_from, jump_from, conflicts_by, conflict_below}
use Rattle.file_format.specs.Held.{misuse, fault_at, fault_position, lock_fault}
use Rattle.file_format.specs.Lawful.{Bounded}
use Rattle.file_format.specs.Rising.{descends, descent_at, descent_position, lock_order}
use Rattle.file_format.specs.Stored.{no_op}
use Rattle.file_format.specs.Structured.{Structured}
use Rattle.file_format.proofs.Bounded.{lane_bounded}
use Rattle.file_format.proofs.Laws.Lanes.{lane_ops}
use Rattle.file_format.proofs.Laws.Rules.{head_range}
use Rattle.file_format.proofs.Laws.Search.{found_nowhere, named_nowhere}
use Rattle.file_format.proofs.Laws.Stored.{ops_from_length}
use Rattle.file_locks.specs.Lanes.{Clean}
use Rattle.file_locks.proofs.Laws.Held.{record_none}
use Rattle.file_locks.proofs.Laws.Order.{fault, descent, fault_first, descent_first}

-- an operation that names no lock
abbrev Lockless : Op → Type 0
Lockless (Set a c) = Unit {0}
Lockless (Add a b) = Unit {0}
Lockless (Load a b) = Unit {0}
Lockless (Store a b) = Unit {0}
Lockless (Lock b) = ⊥
Lockless (Unlock b) = ⊥
Lockless (Skip a q) = Unit {0}

bounded_lockless : (ls ks n p : ℕ) (o : Op) → ks ≡ 0 → Bounded ls ks n p o → Lockless o
bounded_lockless ls ks n p (Set a c) z b = tt
bounded_lockless ls ks n p (Add a c) z b = tt
bounded_lockless ls ks n p (Load a c) z b = tt
bounded_lockless ls ks n p (Store a c) z b = tt
bounded_lockless ls ks n p (Lock l) z b = omega arith
bounded_lockless ls ks n p (Unlock l) z b = omega arith
bounded_lockless ls ks n p (Skip a q) z b = tt

after_lockless : (h : List Bool) (o : Op) → Lockless o → after h o ≡ h
after_lockless h (Set a c) w = refl
after_lockless h (Add a c) w = refl
after_lockless h (Load a c) w = refl
after_lockless h (Store a c) w = refl
after_lockless h (Lock l) w = absurd w
after_lockless h (Unlock l) w = absurd w
after_lockless h (Skip a q) w = refl

-- it keeps both rules where no lock is held
kept_lockless : (o : Op) → Lockless o → (misuse no_locks (some o) ≡ false) × (descends no_locks (some o) ≡ false)
kept_lockless (Set a c) w = (refl, refl)
kept_lockless (Add a c) w = (refl, refl)
kept_lockless (Load a c) w = (refl, refl)
kept_lockless (Store a c) w = (refl, refl)
kept_lockless (Lock l) w = absurd w
kept_lockless (Unlock l) w = absurd w
kept_lockless (Skip a q) w = (refl, refl)

none_conflicts : (j : Option ℕ) (p : ℕ) → conflicts_by j p no_locks no_locks ≡ false
unfolding same
none_conflicts none p = refl
none_conflicts (some q) p = by_test (λ b. cond b false false ≡ false) refl refl (eqb q p)

-- a lane of such operations
abbrev AllLockless : List Op → Type 0
AllLockless ops = (p : ℕ) → p < length ops → Lockless (get_or ops p no_op)

held_lockless : (h : List Bool) (ops : List Op) (p : ℕ) → AllLockless ops → held_from h (take p ops) ≡ h
unfolding held_from
held_lockless h [] zero w = refl
held_lockless h [] (suc p) w = refl
held_lockless h (o ∷ ops) zero w = refl
held_lockless h (o ∷ ops) (suc p) w =
    held_lockless (after h o) ops p (λ q l. w (suc q) (omega arith)) ∙ after_lockless h o (w 0 (omega arith))

module _ (ops : List Op) (w : AllLockless ops) where
  no_conflict : (n p : ℕ) → conflict_below ops n p ≡ false
  unfolding conflict_below
  no_conflict zero p = refl
  no_conflict (suc n) p =
      rw (
        held_lockless no_locks ops n w,
        held_lockless no_locks ops p w,
        none_conflicts (jump_from (get_elem? ops n)) p,
        no_conflict n p,
      )

  -- at each position, and at the end
  kept_at : (p : ℕ) → (misuse no_locks (get_elem? ops p) ≡ false) × (descends no_locks (get_elem? ops p) ≡ false)
  unfolding same
  kept_at p = go ops p w
    where
      go : (ops : List Op) (p : ℕ) → AllLockless ops
          → (misuse no_locks (get_elem? ops p) ≡ false) × (descends no_locks (get_elem? ops p) ≡ false)
      go [] p w = (refl, refl)
      go (o ∷ ops) zero w = kept_lockless o (w 0 (omega arith))
      go (o ∷ ops) (suc p) w = go ops p (λ q l. w (suc q) (omega arith))

  lockless_clean : Clean ops
  unfolding fault_position descent_position fault_at descent_at
  lockless_clean = (
    found_nowhere (λ i. fault_at ops (i - 1)) 1 (length ops + 1)
        (λ i. rw (no_conflict (length ops) (i - 1), held_lockless no_locks ops (i - 1) w) (kept_at (i - 1)).0),
    found_nowhere (λ i. descent_at ops (i - 1)) 1 (length ops)
        (λ i. rw (held_lockless no_locks ops (i - 1) w) (kept_at (i - 1)).1),
  )

-- the lanes of a file whose header counts none
module _ (s : List ℕ) (st : Structured s) (z : locks s ≡ 0) where
  lane_lockless : (t : ℕ) → t < 4 → AllLockless (ops_at s (head s t))
  lane_lockless t below p l =
      let len = ops_from_length s 0 (records_at s (head s t)) in
      bounded_lockless (locations s) (locks s) (length (records_at s (head s t))) p
      (get_or (ops_at s (head s t)) p no_op) z
      (lane_bounded s st.fields.records (head s t) (head_range s st.fields.header t below) p no_op
      (omega (arith, len)))

  lane_clean : (t : ℕ) → t < 4 → Clean (get_or (program_of s).lanes t [])
  lane_clean t below =
      rw (lane_ops s st.fields.header t below) (lockless_clean (ops_at s (head s t)) (lane_lockless t below))

  pub no_fault : lock_fault (program_of s) ≡ 0
  no_fault =
      sym (fault_first s)
      ∙ named_nowhere (fault s) 0 4 (λ t l. record_none _ _ (lane_clean t l).0)

  pub no_descent : lock_order (program_of s) ≡ 0
  no_descent =
      sym (descent_first s)
      ∙ named_nowhere (descent s) 0 4 (λ t l. record_none _ _ (lane_clean t l).1)
