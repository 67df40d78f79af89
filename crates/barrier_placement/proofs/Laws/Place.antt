-- Laws of one step of the placement: sets of classes, what stands before a step, what is due after it, where it leads.
use Prim.Native.Nat.{ℕ, zero, suc, ◌<◌}
use native.Mathlib.Omega.{arith}
use mathlib.Core.Path.{◌≡◌, refl, sym, ap, subst}
use mathlib.Core.Bool.{Bool, true, false≢true}
use mathlib.Core.List.{[], ◌∷◌}
use mathlib.Core.Option.{some}
use mathlib.Core.Logic.{◌⊎◌, inl, inr}
use lib.Dec.{eqb}
use lib.ListN.{length}
use borrow.Author.Tests.{eqb-true, eq-eqb}
use Rattle.laws.proofs.Bools.{or_true, or_left, or_right}
use Rattle.barrier_placement.specs.Cookbook.{Class, PL, PS, VL, VS, Barrier, cell}
use Rattle.barrier_placement.specs.Chain.{Step, Access, Skip, Other, Chain, at, Next}
use Rattle.barrier_placement.specs.Place.{has, classes, stands_at, raises, jumps, leads}
use Rattle.barrier_placement.proofs.Laws.Cookbook.{calls_cell}

pub has_classes : (f : Class → Bool) (c : Class) → has (classes f) c ≡ f c
has_classes f PL = refl
has_classes f PS = refl
has_classes f VL = refl
has_classes f VS = refl

jumps_skip : (x : Step) (p : ℕ) → jumps x p ≡ true → x ≡ Skip p
jumps_skip (Access c) p h = absurd (false≢true h)
jumps_skip (Skip t) p h = ap Skip (eqb-true t p h)
jumps_skip Other p h = absurd (false≢true h)

pub leads_next : (s : Chain) (q p : ℕ) → q < length s → leads s q p ≡ true → Next s q p
leads_next s q p l h = (l, go (or_true _ _ h))
  where
    go : (eqb p (suc q) ≡ true) ⊎ (jumps (at s q) p ≡ true) → (p ≡ suc q) ⊎ (at s q ≡ Skip p)
    go (inl e) = inl (eqb-true p (suc q) e)
    go (inr e) = inr (jumps_skip (at s q) p e)

pub next_leads : (s : Chain) (q p : ℕ) → Next s q p → leads s q p ≡ true
next_leads s q p e = go e.1
  where
    go : (p ≡ suc q) ⊎ (at s q ≡ Skip p) → leads s q p ≡ true
    go (inl h) = or_left _ (jumps (at s q) p) (eq-eqb p (suc q) h)
    go (inr h) = or_right (eqb p (suc q)) _ (subst (λ (x : Step). jumps x p ≡ true) (sym h) (eq-eqb p p refl))

pub raised : (b : Barrier) (x : Step) (d : Class) → raises b x d ≡ true
    → (c : Class) × (x ≡ Access c) × (cell c d ≡ some b)
raised b (Access c) d h = (c, refl, calls_cell b c d h)
raised b (Skip t) d h = absurd (false≢true h)
raised b Other d h = absurd (false≢true h)

pub stands_class : (x : Step) (f : Class → Bool) → stands_at x f ≡ true → (c : Class) × (x ≡ Access c) × (f c ≡ true)
stands_class (Access c) f h = (c, refl, h)
stands_class (Skip t) f h = absurd (false≢true h)
stands_class Other f h = absurd (false≢true h)

pub access_inside : (s : Chain) (j : ℕ) (c : Class) → at s j ≡ Access c → j < length s
access_inside [] j c h = let z : ◌≡◌ {A = ℕ} 0 1 = cc in omega arith
access_inside (x ∷ s) zero c h = omega arith
access_inside (x ∷ s) (suc j) c h = omega (arith, access_inside s j c h)
