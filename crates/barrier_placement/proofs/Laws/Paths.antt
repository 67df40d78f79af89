-- Walking along a path: the first position on it where a test holds; and a chain whose SKIPs go forward.
use Prim.Native.Nat.{ℕ, ◌<◌}
use native.Mathlib.Nat.{lt-suc_self}
use mathlib.Core.Path.{◌≡◌, refl, sym, subst}
use mathlib.Core.Bool.{Bool, true, false}
use mathlib.Core.Logic.{◌⊎◌, inl, inr}
use Rattle.barrier_placement.specs.Chain.{Chain, Skip, at, Path, edge, more, Between, Forward}

-- it is enough that each SKIP goes on
pub forward_of : (s : Chain) → ((p t : ℕ) → at s p ≡ Skip t → p < t) → Forward s
forward_of s h p q (l, inl e) = rw e (lt-suc_self p)
forward_of s h p q (l, inr e) = h p q e

-- The first position between the ends of a path where C is true, with the path up to it; or C is false at each.
pub record First (C : ℕ → Bool) {R : ℕ → ℕ → Type 0} {i j : ℕ} (π : Path R i j) : Type 0 where
  pub place : ℕ
  pub on : Between π place
  pub holds : C place ≡ true
  pub up_to : Path R i place
  pub within : (k : ℕ) → Between up_to k → Between π k
  pub none_before : (k : ℕ) → Between up_to k → C k ≡ false

pub first : (C : ℕ → Bool) {R : ℕ → ℕ → Type 0} {i j : ℕ} (π : Path R i j)
    → First C π ⊎ ((k : ℕ) → Between π k → C k ≡ false)
first C (edge e) = inr (λ k m. absurd m)
first C (more {q = q} π e) = go (first C π) (C q) refl
  where
    go : First C π ⊎ ((k : ℕ) → Between π k → C k ≡ false) → (t : Bool) → C q ≡ t
        → First C (more π e) ⊎ ((k : ℕ) → Between (more π e) k → C k ≡ false)
    go (inl f) t h = inl (record {
      place = f.place;
      on = inl f.on;
      holds = f.holds;
      up_to = f.up_to;
      within = λ k m. inl (f.within k m);
      none_before = f.none_before;
    })
    go (inr f) true h = inl (record {
      place = q;
      on = inr refl;
      holds = h;
      up_to = π;
      within = λ k m. inl m;
      none_before = f;
    })
    go (inr f) false h = inr (λ k w. elim w [ inl m ↦ f k m | inr m ↦ subst (λ (x : ℕ). C x ≡ false) (sym m) h ])
