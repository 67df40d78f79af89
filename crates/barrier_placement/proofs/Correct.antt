-- The computed placement has the paper's sentence, on every chain whose skips go forward.
use Prim.Native.Nat.{ℕ, zero, suc, ◌<◌, ◌≤◌}
use native.Mathlib.Nat.{not-suc-le-zero}
use native.Mathlib.Omega.{arith}
use mathlib.Core.Path.{◌≡◌, refl, sym, ap, ◌∙◌, subst}
use mathlib.Core.Bool.{true, false, not, ◌&&◌}
use mathlib.Core.Option.{some}
use mathlib.Core.Logic.{◌⊎◌, inl, inr}
use lib.ListN.{length}
use borrow.Author.Tests.{not-true}
use Rattle.laws.proofs.Bools.{or_true, or_left, or_right, and_true, both_true}
use Rattle.barrier_placement.specs.Cookbook.{Class, Barrier, cell}
use Rattle.barrier_placement.specs.Chain.{Step, Access, Chain, at, Next, Path, edge, more, Between, Forward}
use Rattle.barrier_placement.specs.Place.{stands_at, raises, after, due_after, due, stands}
use Rattle.barrier_placement.specs.Sentence.{Open, Sentence}
use Rattle.barrier_placement.proofs.Laws.Cookbook.{cell_calls}
use Rattle.barrier_placement.proofs.Laws.Place.{leads_next, next_leads, raised, stands_class, access_inside}
use Rattle.barrier_placement.proofs.Laws.DueAfter.{due_after_has, arrives_from, arrives_of}

module _ (s : Chain) (b : Barrier) where
  -- an access that calls for b before the class d, and a path from it to p on which no b stands
  record Reaches (d : Class) (p : ℕ) : Type 0 where
    from : ℕ
    first : Class
    earlier : at s from ≡ Access first
    calls : cell first d ≡ some b
    path : Path (Next s) from p
    clear : (k : ℕ) → Between path k → stands s b k ≡ false

  extend : {d : Class} {q p : ℕ} → Reaches d q → stands s b q ≡ false → Next s q p → Reaches d p
  extend {q = q} r h e = record {
    from = r.from;
    first = r.first;
    earlier = r.earlier;
    calls = r.calls;
    path = more r.path e;
    clear = λ k w. elim w [ inl m ↦ r.clear k m | inr m ↦ subst (λ (x : ℕ). stands s b x ≡ false) (sym m) h ];
  }

  -- what is due at p was raised by a step before p, or was due before it
  due_from : (p : ℕ) (d : Class) → p ≤ length s → due s b p d ≡ true → (q : ℕ) × (q < p) × Next s q p
      × (((stands s b q ≡ false) × (due s b q d ≡ true)) ⊎ (raises b (at s q) d ≡ true))
  unfolding due stands
  due_from p d l t =
      let f = arrives_from s (due_after s b p) p p d t in
      let row = sym (due_after_has s b p f.0 d f.1) ∙ f.3 in
      (f.0, f.1, leads_next s f.0 p (omega (arith, f.1)) f.2, pick f.0 (or_true _ _ row))
    where
      pick : (q : ℕ) → ((not (stands s b q) && due s b q d) ≡ true) ⊎ (raises b (at s q) d ≡ true)
          → ((stands s b q ≡ false) × (due s b q d ≡ true)) ⊎ (raises b (at s q) d ≡ true)
      pick q (inl w) =
          let v = and_true (not (stands s b q)) (due s b q d) w in inl (not-true (stands s b q) v.0, v.1)
      pick q (inr w) = inr w

  due_reaches : (n p : ℕ) (d : Class) → p < n → p ≤ length s → due s b p d ≡ true → Reaches d p
  due_reaches zero p d h l t = absurd (not-suc-le-zero h)
  due_reaches (suc n) p d h l t =
      let f = due_from p d l t in
      go f.0 f.2 (λ w. due_reaches n f.0 d (omega (arith, f.1)) (omega (arith, f.1)) w) f.3
    where
      go : (q : ℕ) → Next s q p → (due s b q d ≡ true → Reaches d q)
          → ((stands s b q ≡ false) × (due s b q d ≡ true)) ⊎ (raises b (at s q) d ≡ true) → Reaches d p
      go q e ih (inl w) = extend (ih w.1) w.0 e
      go q e ih (inr w) =
          let r = raised b (at s q) d w in
          record { from = q; first = r.0; earlier = r.1; calls = r.2; path = edge e; clear = λ k m. absurd m }

  due_step : Forward s → (q p : ℕ) (d : Class) → Next s q p → after b (at s q) (due s b q) d ≡ true → due s b p d ≡ true
  unfolding due
  due_step forward q p d e t =
      let l = forward q p e in
      arrives_of s (due_after s b p) p p d (q, l, next_leads s q p e, due_after_has s b p q d l ∙ t)

  reaches_due : Forward s → {i p : ℕ} (c d : Class) (π : Path (Next s) i p) → at s i ≡ Access c → cell c d ≡ some b
      → ((k : ℕ) → Between π k → stands s b k ≡ false) → due s b p d ≡ true
  unfolding stands
  reaches_due forward {i} {p} c d (edge e) a t clear =
      let r : raises b (at s i) d ≡ true = subst (λ (x : Step). raises b x d ≡ true) (sym a) (cell_calls b c d t) in
      due_step forward i p d e (or_right (not (stands s b i) && due s b i d) _ r)
  reaches_due forward {i} {p} c d (more {q = q} π e) a t clear =
      let r : due s b q d ≡ true = reaches_due forward c d π a t (λ k m. clear k (inl m)) in
      due_step forward q p d e (or_left _ (raises b (at s q) d) (both_true _ _ (ap not (clear q (inr refl))) r))

  pub correct : Forward s → Sentence s b (stands s b)
  unfolding stands
  correct forward j = (λ h. to (stands_class (at s j) (due s b j) h), from)
    where
      to : (c : Class) × (at s j ≡ Access c) × (due s b j c ≡ true) → Open s b (stands s b) j
      to f =
          let l : j < length s = access_inside s j f.0 f.1 in
          let r = due_reaches (suc j) j f.0 (omega arith) (omega arith) f.2 in
          record {
            from = r.from;
            pair = record { first = r.first; second = f.0; earlier = r.earlier; later = f.1; calls = r.calls };
            path = r.path;
            clear = r.clear;
          }

      from : Open s b (stands s b) j → stands_at (at s j) (due s b j) ≡ true
      from o =
          let p = o.pair in
          subst (λ (x : Step). stands_at x (due s b j) ≡ true) (sym p.later)
          (reaches_due forward p.first p.second o.path p.earlier p.calls o.clear)
