-- A barrier stands only before an access of its second letter's kind, so at most two stand before one access.
use Prim.Native.Nat.{ℕ, zero, suc, ◌<◌, ◌≤◌}
use native.Mathlib.Nat.{not-suc-le-zero}
use native.Mathlib.Omega.{arith}
use mathlib.Core.Path.{◌≡◌, refl, sym, ◌∙◌, subst}
use mathlib.Core.Bool.{Bool, true, false, not, ◌&&◌, beq, cond, true≢false, false≢true}
use mathlib.Core.List.{List, []}
use mathlib.Core.Logic.{inl, inr}
use lib.ListN.{length}
use Rattle.laws.proofs.Bools.{or_true, and_true, beq_true}
use Rattle.barrier_placement.specs.Cookbook.{Class, Barrier, LL, LS, SS, SL, calls, before_load, is_load}
use Rattle.barrier_placement.specs.Chain.{Step, Access, Chain, at}
use Rattle.barrier_placement.specs.Place.{stands_at, raises, after, due_after, due, stands, keep, before}
use Rattle.barrier_placement.proofs.Laws.Cookbook.{every_class, class_at, barrier_at, cell_calls}
use Rattle.barrier_placement.proofs.Laws.Place.{raised, stands_class}
use Rattle.barrier_placement.proofs.Laws.DueAfter.{due_after_has, arrives_from}
use Rattle.barrier_placement.proofs.Laws.Chosen.{keep_one}

-- the test: where b is in the cell, it has the kind of the later access
abbrev right : Barrier → Class → Class → Bool
right b c d = cond (calls b c d) (beq (before_load b) (is_load d)) true

pub calls_kind : (b : Barrier) (c d : Class) → calls b c d ≡ true → before_load b ≡ is_load d
calls_kind b c d h =
    let all = barrier_at (λ a. every_class (λ e. every_class (right a e))) refl b in
    let here = class_at (right b c) (class_at (λ e. every_class (right b e)) all c) d in
    beq_true (before_load b) (is_load d)
    (subst (λ (t : Bool). cond t (beq (before_load b) (is_load d)) true ≡ true) h here)

-- what is due after a step was due before it, or the step calls for it
after_kind : (b : Barrier) (x : Step) (f : Class → Bool) (d : Class) → (f d ≡ true → before_load b ≡ is_load d)
    → after b x f d ≡ true → before_load b ≡ is_load d
after_kind b x f d ih h = elim (or_true (not (stands_at x f) && f d) (raises b x d) h) [
  | inl w ↦ ih (and_true (not (stands_at x f)) (f d) w).1
  | inr w ↦ let r = raised b x d w in calls_kind b r.0 d (cell_calls b r.0 d r.2)
]

module _ (s : Chain) (b : Barrier) where
  due_kind_below : (n p : ℕ) (d : Class) → p < n → due s b p d ≡ true → before_load b ≡ is_load d
  unfolding due
  due_kind_below zero p d h t = absurd (not-suc-le-zero h)
  due_kind_below (suc n) p d h t =
      let f = arrives_from s (due_after s b p) p p d t in
      after_kind b (at s f.0) (due s b f.0) d (due_kind_below n f.0 d (omega (arith, f.1)))
      (sym (due_after_has s b p f.0 d f.1) ∙ f.3)

  -- what is due before an access has its kind
  pub due_kind : (p : ℕ) (d : Class) → due s b p d ≡ true → before_load b ≡ is_load d
  due_kind p d = due_kind_below (suc p) p d (omega arith)

  -- and so has what stands there
  pub stands_kind : (p : ℕ) (c : Class) → at s p ≡ Access c → stands s b p ≡ true → before_load b ≡ is_load c
  unfolding stands
  stands_kind p c a h = due_kind p c (subst (λ (x : Step). stands_at x (due s b p) ≡ true) a h)

module _ (s : Chain) (p : ℕ) where
  stand_alike : (a b : Barrier) → stands s a p ≡ true → stands s b p ≡ true → before_load a ≡ before_load b
  unfolding stands
  stand_alike a b h k =
      let c = stands_class (at s p) (due s a p) h in
      stands_kind s a p c.0 c.1 h ∙ sym (stands_kind s b p c.0 c.1 k)

  -- of two barriers of different kinds at most one stands
  kinds_apart : (a b : Barrier) → ¬ before_load a ≡ before_load b → (stands s a p && stands s b p) ≡ false
  kinds_apart a b e = go (stands s a p) (stands s b p) (stand_alike a b)
    where
      go : (t u : Bool) → (t ≡ true → u ≡ true → before_load a ≡ before_load b) → (t && u) ≡ false
      go true true w = absurd (e (w refl refl))
      go true false w = refl
      go false u w = refl

  -- of the two barriers with the first letter L at most one stands, and of the two with S
  pub load_once : (stands s LL p && stands s LS p) ≡ false
  load_once = kinds_apart LL LS true≢false

  pub store_once : (stands s SS p && stands s SL p) ≡ false
  store_once = kinds_apart SS SL false≢true

  pub before_few : length (before s p) ≤ 2
  before_few =
      let stores : List Barrier = keep (stands s SS p) SS (keep (stands s SL p) SL []) in
      omega (
        arith,
        keep_one (stands s LL p) (stands s LS p) LL LS stores load_once,
        keep_one (stands s SS p) (stands s SL p) SS SL [] store_once,
      )
