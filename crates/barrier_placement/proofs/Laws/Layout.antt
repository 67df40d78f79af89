-- Where barriers and operations stand in the layout of a lane.
use Prim.Native.Nat.{ℕ, zero, suc, ◌+◌, ◌-◌, ◌<◌, ◌≤◌}
use native.Mathlib.Nat.{zero-add, suc-add, not-suc-le-zero}
use native.Mathlib.Omega.{arith}
use mathlib.Core.Path.{◌≡◌, refl, ap, ◌∙◌}
use mathlib.Core.List.{List, [], ◌∷◌, ◌++◌, map}
use mathlib.Core.Logic.{inl, inr}
use mathlib.Core.Option.{none, some}
use lib.ListN.{length, get_or, get_elem?, length-append, length-map, get_or-map}
use Rattle.laws.proofs.Lists.{get_elem?_seam, get_elem?_left}
use Rattle.laws.proofs.Numbers.{lt_or_le}
use Rattle.barrier_placement.specs.Cookbook.{Barrier, LL}
use Rattle.barrier_placement.specs.Layout.{Placed, operations, barriers_at, start, op_at, layout}

pub start_zero : {A : Type 0} (ps : List (Placed A)) → start ps 0 ≡ 0
start_zero [] = refl
start_zero (x ∷ ps) = refl

-- behind the p-th operation begins the next
pub start_suc : {A : Type 0} (ps : List (Placed A)) (p : ℕ) → p < length ps → start ps (suc p) ≡ suc (op_at ps p)
start_suc [] p h = absurd (not-suc-le-zero h)
start_suc (x ∷ ps) zero h = omega (arith, start_zero ps)
start_suc (x ∷ ps) (suc p) h = omega (arith, start_suc ps p (omega arith))

-- a later operation begins behind an earlier one
pub start_later : {A : Type 0} (ps : List (Placed A)) (p q : ℕ) → p < q → p < length ps → op_at ps p < start ps q
start_later [] p q l h = absurd (not-suc-le-zero h)
start_later (x ∷ ps) p zero l h = absurd (not-suc-le-zero l)
start_later (x ∷ ps) zero (suc q) l h = omega arith
start_later (x ∷ ps) (suc p) (suc q) l h = omega (arith, start_later ps p q (omega arith) (omega arith))

-- so that a position is of one operation or of a barrier before it
pub place_once : {A : Type 0} (ps : List (Placed A)) (p q i j : ℕ) → p < length ps → q < length ps
    → i ≤ length (barriers_at ps p) → j ≤ length (barriers_at ps q) → start ps p + i ≡ start ps q + j → p ≡ q
place_once ps p q i j p<n q<n li lj e = elim (lt_or_le p q) [
  | inl l ↦ absurd (omega (arith, start_later ps p q l p<n))
  | inr l ↦ elim (lt_or_le q p) [
    | inl k ↦ absurd (omega (arith, start_later ps q p k q<n))
    | inr k ↦ omega arith
  ]
]

pub regroup : (a b c : ℕ) → a + suc b + c ≡ a + suc (b + c)
regroup a b c = omega arith

-- m is the position of the p-th operation or of a barrier before it
abbrev pub Located : {A : Type 0} → List (Placed A) → ℕ → Type 0
Located ps m = (p : ℕ) × (j : ℕ) × (p < length ps) × (j ≤ length (barriers_at ps p)) × (m ≡ start ps p + j)

module _ {I : Type 0} (bar : Barrier → I) where
  pub fetch_over : (bs : List Barrier) (i : I) (is : List I) (n : ℕ)
      → get_elem? (map bar bs ++ i ∷ is) (length bs + suc n) ≡ get_elem? is n
  fetch_over [] i is n = rw zero-add
  fetch_over (b ∷ bs) i is n = rw suc-add (fetch_over bs i is n)

  seam : (bs : List Barrier) (i : I) (is : List I) → get_elem? (map bar bs ++ i ∷ is) (length bs) ≡ some i
  seam bs i is = rw (← length-map bs bar) (get_elem?_seam (map bar bs) i is)

  left : (bs : List Barrier) (is : List I) (j : ℕ) → j < length bs
      → get_elem? (map bar bs ++ is) j ≡ some (bar (get_or bs j LL))
  left bs is j h =
      get_elem?_left (map bar bs) is (bar LL) j (omega (arith, length-map bs bar)) ∙ ap some (get_or-map bar bs j LL)

module _ {A I : Type 0} (bar : Barrier → I) (put : A → I) where
  layout_length : (x : Placed A) (ps : List (Placed A))
      → length (layout bar put (x ∷ ps)) ≡ length x.before + suc (length (layout bar put ps))
  layout_length x ps =
      omega (
        arith,
        length-append (map bar x.before) (put x.oper ∷ layout bar put ps),
        length-map x.before bar,
      )

  -- a lane ends where an operation behind its last one would begin
  pub layout_end : (ps : List (Placed A)) → length (layout bar put ps) ≡ start ps (length ps)
  layout_end [] = refl
  layout_end (x ∷ ps) = omega (arith, layout_length x ps, layout_end ps)

  -- the place of an operation, past some of its barriers, lies in the lane or at its end
  pub place_within : (ps : List (Placed A)) (p j : ℕ) → j ≤ length (barriers_at ps p)
      → start ps p + j ≤ length (layout bar put ps)
  place_within [] p j h = omega arith
  place_within (x ∷ ps) zero j h = omega (arith, layout_length x ps)
  place_within (x ∷ ps) (suc p) j h = omega (arith, layout_length x ps, place_within ps p j h)

  -- and in the lane only where there is such an operation
  pub inside_chain : (ps : List (Placed A)) (p j : ℕ) → start ps p + j < length (layout bar put ps) → p < length ps
  inside_chain [] p j h = absurd (not-suc-le-zero h)
  inside_chain (x ∷ ps) zero j h = omega arith
  inside_chain (x ∷ ps) (suc p) j h =
      let rest = inside_chain ps p j (omega (arith, layout_length x ps)) in
      omega arith

  -- each position of the lane is of this kind
  pub locate : (ps : List (Placed A)) (m : ℕ) → m < length (layout bar put ps) → Located ps m
  locate [] m h = absurd (not-suc-le-zero h)
  locate (x ∷ ps) m h = elim (lt_or_le (length x.before) m) [
    | inl l ↦
        let r = locate ps (m - suc (length x.before)) (omega (arith, layout_length x ps)) in
        (suc r.0, r.1, omega (arith, r.2), r.3, omega (arith, r.4))
    | inr l ↦ (0, m, omega arith, l, omega arith)
  ]

  pub at_barrier : (ps : List (Placed A)) (p j : ℕ) → j < length (barriers_at ps p)
      → get_elem? (layout bar put ps) (start ps p + j) ≡ some (bar (get_or (barriers_at ps p) j LL))
  at_barrier [] p j h = absurd (not-suc-le-zero h)
  at_barrier (x ∷ ps) zero j h = rw zero-add (left bar x.before _ j h)
  at_barrier (x ∷ ps) (suc p) j h =
      rw (regroup (length x.before) (start ps p) j) (fetch_over bar x.before _ _ _ ∙ at_barrier ps p j h)

  pub at_op : (ps : List (Placed A)) (p : ℕ)
      → get_elem? (layout bar put ps) (op_at ps p) ≡ get_elem? (map put (operations ps)) p
  at_op [] p = refl
  at_op (x ∷ ps) zero = rw zero-add (seam bar x.before _ _)
  at_op (x ∷ ps) (suc p) =
      rw (regroup (length x.before) (start ps p) (length (barriers_at ps p)))
      (fetch_over bar x.before _ _ _ ∙ at_op ps p)

  pub at_end : (ps : List (Placed A)) (p j : ℕ) → get_elem? ps p ≡ none
      → get_elem? (layout bar put ps) (start ps p + j) ≡ none
  at_end [] p j e = refl
  at_end (x ∷ ps) zero j e = cc
  at_end (x ∷ ps) (suc p) j e =
      rw (regroup (length x.before) (start ps p) j) (fetch_over bar x.before _ _ _ ∙ at_end ps p j e)
