-- What is due after each position, that it stays so as the pass goes on, and from where it arrives.
use Prim.Native.Nat.{ℕ, zero, suc, ◌<◌}
use native.Mathlib.Nat.{not-suc-le-zero, le_of_suc-le-suc, eq-or-lt_of_le}
use native.Mathlib.Omega.{arith}
use mathlib.Core.Path.{◌≡◌, refl, sym, ◌∙◌, ap, subst}
use mathlib.Core.Bool.{true, ◌&&◌, ◌||◌, false≢true}
use mathlib.Core.List.{List, [], ◌∷◌, ◌++◌}
use mathlib.Core.Logic.{◌⊎◌, inl, inr}
use lib.ListN.{length, get_or, length-append, get_or-append}
use lib.Seq.{get_or_at}
use Rattle.laws.proofs.Bools.{or_true, or_left, or_right, and_true, both_true}
use Rattle.barrier_placement.specs.Cookbook.{Class, Barrier}
use Rattle.barrier_placement.specs.Chain.{Chain, at}
use Rattle.barrier_placement.specs.Place.{Classes, has, classes, no_classes, after, leads, arrives}
use Rattle.barrier_placement.specs.Place.{due_after, due}
use Rattle.barrier_placement.proofs.Laws.Place.{has_classes}

due_after_length : (s : Chain) (b : Barrier) (k : ℕ) → length (due_after s b k) ≡ k
unfolding due_after
due_after_length s b zero = refl
due_after_length s b (suc k) = simp length-append (omega (arith, due_after_length s b k))

-- what was due earlier stays
pub due_after_at : (s : Chain) (b : Barrier) (k q : ℕ) → q < k
    → get_or (due_after s b k) q no_classes ≡ classes (after b (at s q) (due s b q))
unfolding due_after due
due_after_at s b zero q h = absurd (not-suc-le-zero h)
due_after_at s b (suc k) q h = go (due_after_at s b k q) (eq-or-lt_of_le (le_of_suc-le-suc h))
  where
    row : Classes
    row = classes (after b (at s k) (arrives s (due_after s b k) k k))

    go : (q < k → get_or (due_after s b k) q no_classes ≡ classes (after b (at s q) (due s b q))) → (q ≡ k) ⊎ (q < k)
        → get_or (due_after s b k ++ row ∷ []) q no_classes ≡ classes (after b (at s q) (due s b q))
    go ih (inl e) =
        subst (λ (x : ℕ). get_or (due_after s b k ++ row ∷ []) x no_classes ≡ classes (after b (at s x) (due s b x)))
        (sym e)
        (get_or_at (due_after s b k) row [] no_classes k (due_after_length s b k))
    go ih (inr l) =
        get_or-append (due_after s b k) (row ∷ []) no_classes q (rw (due_after_length s b k) l) ∙ ih l

pub due_after_has : (s : Chain) (b : Barrier) (k q : ℕ) (d : Class) → q < k
    → has (get_or (due_after s b k) q no_classes) d ≡ after b (at s q) (due s b q) d
due_after_has s b k q d h =
    ap (λ (r : Classes). has r d) (due_after_at s b k q h) ∙ has_classes (after b (at s q) (due s b q)) d

-- a position below k leads to p, and something is due after it before a class d
abbrev pub Found : Chain → List Classes → ℕ → ℕ → Class → Type 0
Found s rows k p d = (q : ℕ) × (q < k) × (leads s q p ≡ true) × (has (get_or rows q no_classes) d ≡ true)

pub arrives_from : (s : Chain) (rows : List Classes) (k p : ℕ) (d : Class) → arrives s rows k p d ≡ true
    → Found s rows k p d
arrives_from s rows zero p d h = absurd (false≢true h)
arrives_from s rows (suc k) p d h = go (arrives_from s rows k p d) (or_true _ _ h)
  where
    go : (arrives s rows k p d ≡ true → Found s rows k p d)
        → ((leads s k p && has (get_or rows k no_classes) d) ≡ true) ⊎ (arrives s rows k p d ≡ true)
        → Found s rows (suc k) p d
    go ih (inl a) = let f = and_true _ _ a in (k, omega arith, f.0, f.1)
    go ih (inr a) = let f = ih a in (f.0, omega (arith, f.1), f.2, f.3)

pub arrives_of : (s : Chain) (rows : List Classes) (k p : ℕ) (d : Class) → Found s rows k p d
    → arrives s rows k p d ≡ true
arrives_of s rows zero p d f = absurd (not-suc-le-zero f.1)
arrives_of s rows (suc k) p d f = go (arrives_of s rows k p d) (eq-or-lt_of_le (le_of_suc-le-suc f.1))
  where
    go : (Found s rows k p d → arrives s rows k p d ≡ true) → (f.0 ≡ k) ⊎ (f.0 < k)
        → arrives s rows (suc k) p d ≡ true
    go ih (inl e) =
        subst (λ (x : ℕ). ((leads s x p && has (get_or rows x no_classes) d) || arrives s rows k p d) ≡ true) e
        (or_left _ (arrives s rows k p d) (both_true _ _ f.2 f.3))
    go ih (inr b) = or_right (leads s k p && has (get_or rows k no_classes) d) _ (ih (f.0, b, f.2, f.3))
