-- What a walk along records that met none of them twice says of them and of the flags: law `walk`.
use Prim.Native.Nat.{ℕ, zero, suc, ◌≤◌, ◌<◌}
use mathlib.Core.Path.{◌≡◌, refl, sym, ap, ◌∙◌, subst}
use mathlib.Core.List.{List, [], ◌∷◌}
use mathlib.Core.Bool.{Bool, true, false, true≢false}
use mathlib.Core.Option.{some}
use mathlib.Core.Logic.{◌⊎◌, inl, inr}
use lib.ListN.{get_or, get_elem?, set, length, length-set}
use lib.Seq.{get_or-set_same, get_or-set_other}
use native.Mathlib.Omega.{arith}
use native.Mathlib.Decide.{ℕ_discrete}
use Rattle.file_format.specs.Linkage.{walk_of}
use Rattle.file_format.proofs.Laws.Linkage.{walk_of_here, walk_of_on}

-- record i stands at place p
abbrev pub At : List ℕ → ℕ → ℕ → Type 0
At rs p i = get_elem? rs p ≡ some i

-- what a walk along rs that met none twice says, where met are the flags before it and after those after it
pub record Walk (met after : List Bool) (rs : List ℕ) : Type 0 where
  pub size : length after ≡ length met
  pub kept : (i : ℕ) → get_or met i false ≡ true → get_or after i false ≡ true
  pub marked : (p i : ℕ) → At rs p i → get_or after i false ≡ true
  pub fresh : (p i : ℕ) → At rs p i → get_or met i false ≡ false
  pub once : (p q i : ℕ) → At rs p i → At rs q i → p ≡ q
  pub flags : (i : ℕ) → get_or after i false ≡ true → (get_or met i false ≡ true) ⊎ ((p : ℕ) × At rs p i)

-- every record has a flag; flag 0 is no record's
abbrev pub Flagged : List Bool → List ℕ → Type 0
Flagged met rs = (p i : ℕ) → At rs p i → (1 ≤ i) × (i < length met)

pub none_at : {A : Type 0} (p i : ℕ) → At [] p i → A
none_at p i e = let z : ◌≡◌ {A = ℕ} 0 1 = cc in absurd (omega arith)

module _ (met after : List Bool) (r : ℕ) (rs : List ℕ) (inside : r < length met) (new : get_or met r false ≡ false)
    (w : Walk (set met r true) after rs) where
  here : get_or (set met r true) r false ≡ true
  here = get_or-set_same met r true false inside

  elsewhere : (i : ℕ) → (i ≡ r → ⊥) → get_or (set met r true) i false ≡ get_or met i false
  elsewhere i n = get_or-set_other met r i true false n

  other : (p i : ℕ) → At rs p i → i ≡ r → ⊥
  other p i e z = true≢false (sym here ∙ ap (λ j. get_or (set met r true) j false) (sym z) ∙ w.fresh p i e)

  walk_suc : Walk met after (r ∷ rs)
  walk_suc = record {
    size = w.size ∙ length-set met r true;
    kept = λ i h. keeps i h (ℕ_discrete i r);
    marked = marks;
    fresh = news;
    once = ones;
    flags = λ i h. back i (ℕ_discrete i r) (w.flags i h);
  }
    where
      keeps : (i : ℕ) → get_or met i false ≡ true → Dec (i ≡ r) → get_or after i false ≡ true
      keeps i h (yes z) = w.kept i (ap (λ j. get_or (set met r true) j false) z ∙ here)
      keeps i h (no n) = w.kept i (elsewhere i n ∙ h)

      marks : (p i : ℕ) → At (r ∷ rs) p i → get_or after i false ≡ true
      marks zero i e = let z : r ≡ i = cc in subst (λ j. get_or after j false ≡ true) z (w.kept r here)
      marks (suc p) i e = w.marked p i e

      news : (p i : ℕ) → At (r ∷ rs) p i → get_or met i false ≡ false
      news zero i e = let z : r ≡ i = cc in subst (λ j. get_or met j false ≡ false) z new
      news (suc p) i e = sym (elsewhere i (other p i e)) ∙ w.fresh p i e

      ones : (p q i : ℕ) → At (r ∷ rs) p i → At (r ∷ rs) q i → p ≡ q
      ones zero zero i e f = refl
      ones zero (suc q) i e f = let z : i ≡ r = cc in absurd (other q i f z)
      ones (suc p) zero i e f = let z : i ≡ r = cc in absurd (other p i e z)
      ones (suc p) (suc q) i e f = ap suc (w.once p q i e f)

      back : (i : ℕ) → Dec (i ≡ r) → (get_or (set met r true) i false ≡ true) ⊎ ((p : ℕ) × At rs p i)
          → (get_or met i false ≡ true) ⊎ ((p : ℕ) × At (r ∷ rs) p i)
      back i (yes z) f = inr (0, ap some (sym z))
      back i (no n) (inl f) = inl (sym (elsewhere i n) ∙ f)
      back i (no n) (inr f) = inr (suc f.0, f.1)

pub walk : (met : List Bool) (rs : List ℕ) → Flagged met rs → (walk_of met rs).twice ≡ 0
    → Walk met (walk_of met rs).met rs
unfolding walk_of
walk met [] range e = record {
  size = refl;
  kept = λ i h. h;
  marked = λ p i f. none_at p i f;
  fresh = λ p i f. none_at p i f;
  once = λ p q i f. none_at p i f;
  flags = λ i h. inl h;
}
walk met (r ∷ rs) range e = go (get_or met r false) refl (walk (set met r true) rs)
  where
    first : (1 ≤ r) × (r < length met)
    first = range 0 r refl

    go : (b : Bool) → get_or met r false ≡ b
        → (Flagged (set met r true) rs → (walk_of (set met r true) rs).twice ≡ 0
        → Walk (set met r true) (walk_of (set met r true) rs).met rs)
        → Walk met (walk_of met (r ∷ rs)).met (r ∷ rs)
    go true b ih = absurd (omega (arith, first.0, sym (ap (λ w. w.twice) (walk_of_here met r rs b)) ∙ e))
    go false b ih =
        let on = walk_of_on met r rs b in
        let same : length (set met r true) ≡ length met = length-set met r true in
        subst (λ w. Walk met w (r ∷ rs)) (sym (ap (λ w. w.met) on))
        (walk_suc met (walk_of (set met r true) rs).met r rs first.1 b
        (ih (λ p i f. let x = range (suc p) i f in (x.0, omega (arith, x.1, same)))
        (sym (ap (λ w. w.twice) on) ∙ e)))
