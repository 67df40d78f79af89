-- Whatever has the paper's sentence has no barrier that could be dropped, on any chain, also one whose skips go back.
use Prim.Native.Nat.{ℕ}
use mathlib.Core.Path.{◌≡◌, sym, ◌∙◌, subst}
use mathlib.Core.Bool.{Bool, true, false, true≢false}
use mathlib.Core.Logic.{inl, inr}
use Rattle.barrier_placement.specs.Cookbook.{Barrier}
use Rattle.barrier_placement.specs.Chain.{Chain, Next, Path}
use Rattle.barrier_placement.specs.Sentence.{Along, Pair, Open, Sentence, Covers}

module _ (s : Chain) (b : Barrier) (B : ℕ → Bool) (sentence : Sentence s b B) where
  -- a b that stands is the only one on some path between two accesses whose cell is b
  pub alone : (j : ℕ) → B j ≡ true
      → (i : ℕ) × (π : Path (Next s) i j) × Pair s b i j × ((k : ℕ) → Along π k → B k ≡ true → k ≡ j)
  alone j h = let o : Open s b B j = (sentence j).0 h in (o.from, o.path, o.pair, λ k w t. only o k w t)
    where
      only : (o : Open s b B j) (k : ℕ) → Along o.path k → B k ≡ true → k ≡ j
      only o k (inl m) t = absurd (true≢false (sym t ∙ o.clear k m))
      only o k (inr m) t = m

  -- none can be dropped: a part C of B without j leaves some path uncovered
  pub needed : (j : ℕ) → B j ≡ true → (C : ℕ → Bool) → ((k : ℕ) → C k ≡ true → B k ≡ true) → C j ≡ false
      → ¬ Covers s b C
  needed j h C part gone covers =
      let a = alone j h in
      let f = covers a.0 j a.1 a.2 in
      let e : f.0 ≡ j = a.3 f.0 f.1 (part f.0 f.2) in
      true≢false (sym f.2 ∙ subst (λ (k : ℕ). C k ≡ false) (sym e) gone)
