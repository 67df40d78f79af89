-- The paper's sentence has at most one solution, on any chain, also one whose skips go back.
-- Three barriers are a product of earlier and later classes; LS lacks the one cell PL, PS. So what stands before plain
-- stores is settled first, and with it the rest.
use Prim.Native.Nat.{ℕ}
use mathlib.Core.Path.{◌≡◌, refl, sym, ◌∙◌, subst}
use mathlib.Core.Bool.{Bool, true, false, not, ◌&&◌, ◌||◌, true≢false, false≢true}
use mathlib.Core.Option.{some}
use mathlib.Core.Logic.{◌⊎◌, inl, inr}
use borrow.Author.Tests.{not-true}
use Rattle.laws.proofs.Bools.{or_true, and_true, both_true}
use Rattle.barrier_placement.specs.Cookbook.{Class, PL, PS, VL, VS, Barrier, cell, column, calls}
use Rattle.barrier_placement.specs.Chain.{Chain, Between}
use Rattle.barrier_placement.specs.Sentence.{Pair, Open, Sentence}
use Rattle.barrier_placement.proofs.Laws.Cookbook.{every_class, class_at, barrier_at, calls_cell, cell_calls}
use Rattle.barrier_placement.proofs.Laws.Paths.{First, first}

abbrev is_ps : Class → Bool
is_ps = column false true false false

is_ps_true : (c : Class) → is_ps c ≡ true → c ≡ PS
is_ps_true PL h = absurd (false≢true h)
is_ps_true PS h = refl
is_ps_true VL h = absurd (false≢true h)
is_ps_true VS h = absurd (false≢true h)

-- c calls for b before some class d, and b stands before some accesses of class e: c calls for b before e, or e is PS
-- and d is not
abbrev shape : Barrier → Class → Class → Class → Class → Bool
shape b c d c' e = not (calls b c d && calls b c' e) || (calls b c e || (is_ps e && not (is_ps d)))

abbrev shape₁ : Barrier → Class → Class → Class → Bool
shape₁ b c d c' = every_class (shape b c d c')

abbrev shape₂ : Barrier → Class → Class → Bool
shape₂ b c d = every_class (shape₁ b c d)

abbrev shape₃ : Barrier → Class → Bool
shape₃ b c = every_class (shape₂ b c)

-- one test of every cell
shape_holds : (b : Barrier) (c d c' e : Class) → shape b c d c' e ≡ true
shape_holds b c d c' =
    class_at (shape b c d c') (class_at (shape₁ b c d) (class_at (shape₂ b c)
    (class_at (shape₃ b) (barrier_at (λ a. every_class (shape₃ a)) refl b) c) d) c')

shape_at : (b : Barrier) (c d c' e : Class) → cell c d ≡ some b → cell c' e ≡ some b
    → (cell c e ≡ some b) ⊎ ((e ≡ PS) × (is_ps d ≡ false))
shape_at b c d c' e h k = go (or_true _ _ (shape_holds b c d c' e))
  where
    go : (not (calls b c d && calls b c' e) ≡ true) ⊎ ((calls b c e || (is_ps e && not (is_ps d))) ≡ true)
        → (cell c e ≡ some b) ⊎ ((e ≡ PS) × (is_ps d ≡ false))
    go (inl w) = absurd (true≢false (sym (both_true _ _ (cell_calls b c d h) (cell_calls b c' e k)) ∙ not-true _ w))
    go (inr w) = elim (or_true (calls b c e) _ w) [
      | inl v ↦ inl (calls_cell b c e v)
      | inr v ↦ let u = and_true (is_ps e) _ v in inr (is_ps_true e u.0, not-true (is_ps d) u.1)
    ]

module _ (s : Chain) (b : Barrier) where
  pair_shape : {i j k l : ℕ} (p : Pair s b i j) (p' : Pair s b k l)
      → (cell p.first p'.second ≡ some b) ⊎ ((p'.second ≡ PS) × (is_ps p.second ≡ false))
  pair_shape p p' = shape_at b p.first p.second p'.first p'.second p.calls p'.calls

  -- a path open for B is open for C, if B is true wherever C is true and the path's first access calls for no b
  carry : (B C : ℕ → Bool) → Sentence s b B → Sentence s b C → (j : ℕ) (o : Open s b B j)
      → ((k : ℕ) (o' : Open s b C k) → (cell o.pair.first o'.pair.second ≡ some b) ⊎ (B k ≡ true)) → C j ≡ true
  carry B C sB sC j o agree = go (first C o.path)
    where
      seen : (f : First C o.path) (o' : Open s b C f.place)
          → (cell o.pair.first o'.pair.second ≡ some b) ⊎ (B f.place ≡ true) → B f.place ≡ true
      seen f o' (inl t) = (sB f.place).1 (record {
        from = o.from;
        pair = record {
          first = o.pair.first;
          second = o'.pair.second;
          earlier = o.pair.earlier;
          later = o'.pair.later;
          calls = t;
        };
        path = f.up_to;
        clear = λ k m. o.clear k (f.within k m);
      })
      seen f o' (inr t) = t

      go : First C o.path ⊎ ((k : ℕ) → Between o.path k → C k ≡ false) → C j ≡ true
      go (inl f) =
          let o' = (sC f.place).0 f.holds in
          absurd (true≢false (sym (seen f o' (agree f.place o')) ∙ o.clear f.place f.on))
      go (inr f) = (sC j).1 (record { from = o.from; pair = o.pair; path = o.path; clear = f })

  -- before a plain store
  agree_ps : (B C : ℕ → Bool) → Sentence s b B → Sentence s b C → (j : ℕ) (o : Open s b B j) → o.pair.second ≡ PS
      → C j ≡ true
  agree_ps B C sB sC j o h = carry B C sB sC j o agree
    where
      agree : (k : ℕ) (o' : Open s b C k) → (cell o.pair.first o'.pair.second ≡ some b) ⊎ (B k ≡ true)
      agree k o' = elim (pair_shape o.pair o'.pair) [
        | inl t ↦ inl t
        | inr t ↦ absurd (true≢false (subst (λ (c : Class). is_ps c ≡ false) h t.1))
      ]

  agree_all : (B C : ℕ → Bool) → Sentence s b B → Sentence s b C → (j : ℕ) → B j ≡ true → C j ≡ true
  agree_all B C sB sC j h = carry B C sB sC j o agree
    where
      o : Open s b B j
      o = (sB j).0 h

      agree : (k : ℕ) (o' : Open s b C k) → (cell o.pair.first o'.pair.second ≡ some b) ⊎ (B k ≡ true)
      agree k o' = elim (pair_shape o.pair o'.pair) [
        | inl t ↦ inl t
        | inr t ↦ inr (agree_ps C B sC sB k o' t.0)
      ]

  pub unique : (B C : ℕ → Bool) → Sentence s b B → Sentence s b C → (j : ℕ) → B j ≡ C j
  unique B C sB sC j = go (B j) (C j) (agree_all B C sB sC j) (agree_all C B sC sB j)
    where
      go : (t u : Bool) → (t ≡ true → u ≡ true) → (u ≡ true → t ≡ true) → t ≡ u
      go true u f g = sym (f refl)
      go false true f g = g refl
      go false false f g = refl
