-- A machine has no permitted move exactly when nothing is pending and each lane has ended or stands at a held lock.
use mathlib.Core.Path.{◌≡◌, refl, ap, ◌∙◌, sym}
use mathlib.Core.Bool.{Bool, true, false, not, cond, and-false, not-not, false≢true}
use mathlib.Core.List.{List, [], ◌∷◌}
use mathlib.Core.Logic.{◌↔◌}
use mathlib.Core.Option.{Option, none, some}
use Prim.Native.Nat.{ℕ, suc}
use lib.Dec.{eqb}
use borrow.Author.Tests.{not-false}
use lib.ListN.{get_or, get_elem?}
use Rattle.file_format.specs.declared.accepted.Op.{Op}
use Rattle.file_format.specs.declared.accepted.Op.TheVariants.{Set, Add, Load, Store, Lock, Unlock, Skip}
use Rattle.barrier_placement.specs.declared.cookbook.Barrier.{Barrier}
use Rattle.barrier_placement.specs.declared.cookbook.Barrier.TheVariants.{LL, LS, SS, SL}
use Rattle.sheet_format.specs.Layout.{Instr, op, barrier}
use Rattle.machine_spec.specs.Entries.{Entry}
use Rattle.machine_spec.specs.declared.Machine.{Machine}
use Rattle.machine_spec.specs.declared.Machine.TheVariants.{Source, Target}
use Rattle.machine_spec.specs.Rules.{may_load, may_lock, may_pass}
use Rattle.machine_spec.specs.Step.{Control, Core, Turn, waits, refuses, passes, does, goto, permits, holds, effect}
use Rattle.machine_spec.specs.Step.{next, passed}
use Rattle.machine_spec.specs.Step.{loads, core_after, execute, commit}
use Rattle.machine_spec.specs.State.{State, lane_at, pos_at, core_of}
use Rattle.claims.specs.Stuck.{Stuck, halted, AllHalted}
use Rattle.claims.proofs.Laws.Pending.{oldest_commits}

-- a machine that waits at choice 1 has no entry, since the oldest may commit
nothing_pending : (m : Machine) (vol : ℕ → Bool) (k : Control) (c : Core) (es : List Entry) → c.pending ≡ es
    → commit m vol k c 0 (get_elem? es 0) ≡ waits → es ≡ []
nothing_pending m vol k c [] h e = refl
nothing_pending m vol k c (x ∷ es) h e = cc (oldest_commits m vol k.marks [] x refl)

free_load : (m : Machine) (vol : ℕ → Bool) (x : ℕ) → may_load m vol [] x ≡ true
free_load Source vol x = rw (and-false (vol x))
free_load (Target m) vol x = refl

free_lock : (m : Machine) (vol : ℕ → Bool) → may_lock m vol [] ≡ true
free_lock Source vol = refl
free_lock (Target m) vol = refl

free_pass : (m : Machine) (b : Barrier) → may_pass m b [] ≡ true
free_pass Source b = refl
free_pass (Target m) LL = refl
free_pass (Target m) LS = refl
free_pass (Target m) SS = refl
free_pass (Target m) SL = refl

-- with nothing pending every machine permits all but a LOCK of a held lock
pub free_permits : (m : Machine) (vol : ℕ → Bool) (c : Core) → c.pending ≡ [] → (o : Op)
    → permits m vol c o ≡ not (halted c.locks (some (op o)))
free_permits m vol c nil (Set a n) = refl
free_permits m vol c nil (Add a b) = refl
free_permits m vol c nil (Load a x) = rw nil (free_load m vol x)
free_permits m vol c nil (Store a x) = refl
free_permits m vol c nil (Lock l) =
    let g : may_lock m vol c.pending ≡ true = rw nil (free_lock m vol) in
    rw g (sym (not-not (eqb (get_or c.locks l 0) 0)))
free_permits m vol c nil (Unlock l) = refl
free_permits m vol c nil (Skip a t) = refl

is_wait : Turn → Bool
is_wait waits = true
is_wait refuses = false
is_wait (passes k c) = false
is_wait (does k c v) = false

-- what is permitted does not wait
module _ (m : Machine) (vol : ℕ → Bool) (w : ℕ) (k : Control) (c : Core) where
  acts : (o : Op) → is_wait (effect m vol w k c o) ≡ false
  unfolding is_wait
  acts o = go (holds w c o)
    where
      go : (b : Bool)
          → is_wait (cond b (does (goto k (next c o k.pos)) (core_after m vol w c o) (loads m vol c o)) refuses)
          ≡ false
      go true = refl
      go false = refl

  pub waits_permits : (o : Op) → execute m vol w k c (some (op o)) ≡ waits → permits m vol c o ≡ false
  unfolding is_wait
  waits_permits o e = go (permits m vol c o) refl
    where
      go : (b : Bool) → permits m vol c o ≡ b → permits m vol c o ≡ false
      go false h = h
      go true h = let f : effect m vol w k c o ≡ waits = rw h at e in absurd (false≢true (sym (acts o) ∙ ap is_wait f))

  module _ (nil : c.pending ≡ []) where
    -- with nothing pending a lane waits exactly at its end or at a held lock
    waits_halted : (i : Option Instr) → execute m vol w k c i ≡ waits → halted c.locks i ≡ true
    waits_halted none e = refl
    waits_halted (some (barrier b)) e =
        let f : execute m vol w k c (some (barrier b)) ≡ passes (passed m k c b) c =
        rw (nil, free_pass m b) in
        cc
    waits_halted (some (op o)) e =
        not-false (halted c.locks (some (op o))) (sym (free_permits m vol c nil o) ∙ waits_permits o e)

    halted_waits : (i : Option Instr) → halted c.locks i ≡ true → execute m vol w k c i ≡ waits
    halted_waits none e = refl
    halted_waits (some (barrier b)) e = cc
    halted_waits (some (op o)) e = let f : permits m vol c o ≡ false = free_permits m vol c nil o ∙ ap not e in rw f

-- of every machine, for every program and in every state
pub stuck : (m : Machine) (vol : ℕ → Bool) (prog : List (List Instr)) (s : State)
    → Stuck m vol prog s ↔ AllHalted prog s
stuck m vol prog s = (there, back)
  where
    back : AllHalted prog s → Stuck m vol prog s
    back h t lt = (
      halted_waits m vol (suc t) (lane_at s t).control (core_of s (lane_at s t)) (h t lt).0
          (get_elem? (get_or prog t []) (pos_at s t)) (h t lt).1,
      rw (h t lt).0,
    )

    there : Stuck m vol prog s → AllHalted prog s
    there h t lt =
        let nil =
        nothing_pending m vol (lane_at s t).control (core_of s (lane_at s t)) (lane_at s t).pending refl
        (h t lt).1 in (
          nil,
          waits_halted m vol (suc t) (lane_at s t).control (core_of s (lane_at s t)) nil
              (get_elem? (get_or prog t []) (pos_at s t)) (h t lt).0,
        )
