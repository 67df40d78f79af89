-- The list of the barriers that a test picks holds each that it picks, no other, and none twice.
use Prim.Native.Nat.{ℕ, zero, suc, ◌<◌, ◌≤◌}
use native.Mathlib.Nat.{not-suc-le-zero, le_of_suc-le-suc}
use native.Mathlib.Omega.{arith}
use mathlib.Core.Path.{◌≡◌, refl, ap}
use mathlib.Core.Bool.{Bool, true, false, ◌&&◌, true≢false, false≢true}
use mathlib.Core.List.{List, []}
use lib.ListN.{length, get_or}
use Rattle.barrier_placement.specs.Cookbook.{Barrier, LL, LS, SS, SL, code_of}
use Rattle.barrier_placement.specs.Place.{keep, chosen}

-- b is in the list
abbrev pub Holds : List Barrier → Barrier → Type 0
Holds l b = (o : ℕ) × (o < length l) × (get_or l o LL ≡ b)

-- P holds of each element
abbrev Each : (Barrier → Type 0) → List Barrier → Type 0
Each P l = (o : ℕ) → o < length l → P (get_or l o LL)

-- no barrier is there twice
abbrev pub Once : List Barrier → Type 0
Once l = (o o' : ℕ) → o < length l → o' < length l → get_or l o LL ≡ get_or l o' LL → o ≡ o'

-- a stands after b in the sheet's order
abbrev Later : Barrier → Barrier → Type 0
Later b a = code_of b < code_of a

keep_here : (t : Bool) (b : Barrier) (l : List Barrier) → t ≡ true → Holds (keep t b l) b
keep_here true b l h = (zero, omega arith, refl)
keep_here false b l h = absurd (false≢true h)

keep_there : (t : Bool) (a b : Barrier) (l : List Barrier) → Holds l b → Holds (keep t a l) b
keep_there true a b l h = (suc h.0, omega (arith, h.1), h.2)
keep_there false a b l h = h

-- of two that are not both picked one comes at most
pub keep_one : (t u : Bool) (a b : Barrier) (l : List Barrier) → (t && u) ≡ false
    → length (keep t a (keep u b l)) ≤ suc (length l)
keep_one true true a b l h = absurd (true≢false h)
keep_one true false a b l h = omega arith
keep_one false true a b l h = omega arith
keep_one false false a b l h = omega arith

keep_each : (P : Barrier → Type 0) (t : Bool) (b : Barrier) (l : List Barrier) → (t ≡ true → P b) → Each P l
    → Each P (keep t b l)
keep_each P true b l p f zero h = p refl
keep_each P true b l p f (suc o) h = f o (le_of_suc-le-suc h)
keep_each P false b l p f o h = f o h

keep_once : (t : Bool) (b : Barrier) (l : List Barrier) → Each (Later b) l → Once l → Once (keep t b l)
keep_once true b l f g zero zero h h' e = refl
keep_once true b l f g zero (suc o') h h' e = absurd (omega (arith, f o' (le_of_suc-le-suc h'), ap code_of e))
keep_once true b l f g (suc o) zero h h' e = absurd (omega (arith, f o (le_of_suc-le-suc h), ap code_of e))
keep_once true b l f g (suc o) (suc o') h h' e = ap suc (g o o' (le_of_suc-le-suc h) (le_of_suc-le-suc h') e)
keep_once false b l f g o o' h h' e = g o o' h h' e

nil_each : (P : Barrier → Type 0) → Each P []
nil_each P o h = absurd (not-suc-le-zero h)

nil_once : Once []
nil_once o o' h = absurd (not-suc-le-zero h)

module _ (f : Barrier → Bool) where
  -- the chosen ones from each barrier on
  abbrev from_sl : List Barrier
  from_sl = keep (f SL) SL []

  abbrev from_ss : List Barrier
  from_ss = keep (f SS) SS from_sl

  abbrev from_ls : List Barrier
  from_ls = keep (f LS) LS from_ss

  pub chosen_has : (b : Barrier) → f b ≡ true → Holds (chosen f) b
  chosen_has LL h = keep_here (f LL) LL from_ls h
  chosen_has LS h = keep_there (f LL) LL LS from_ls (keep_here (f LS) LS from_ss h)
  chosen_has SS h = keep_there (f LL) LL SS from_ls (keep_there (f LS) LS SS from_ss (keep_here (f SS) SS from_sl h))
  chosen_has SL h =
      keep_there (f LL) LL SL from_ls
      (keep_there (f LS) LS SL from_ss (keep_there (f SS) SS SL from_sl (keep_here (f SL) SL [] h)))

  -- a property of each chosen one, from each barrier on
  each_sl : (P : Barrier → Type 0) → (f SL ≡ true → P SL) → Each P from_sl
  each_sl P p = keep_each P (f SL) SL [] p (nil_each P)

  each_ss : (P : Barrier → Type 0) → (f SS ≡ true → P SS) → (f SL ≡ true → P SL) → Each P from_ss
  each_ss P q p = keep_each P (f SS) SS from_sl q (each_sl P p)

  each_ls : (P : Barrier → Type 0) → (f LS ≡ true → P LS) → (f SS ≡ true → P SS) → (f SL ≡ true → P SL) → Each P from_ls
  each_ls P r q p = keep_each P (f LS) LS from_ss r (each_ss P q p)

  pub chosen_only : (o : ℕ) → o < length (chosen f) → f (get_or (chosen f) o LL) ≡ true
  chosen_only =
      keep_each (λ b. f b ≡ true) (f LL) LL from_ls (λ h. h) (each_ls (λ b. f b ≡ true) (λ h. h) (λ h. h) (λ h. h))

  pub chosen_once : Once (chosen f)
  chosen_once =
      keep_once (f LL) LL from_ls (each_ls (Later LL) (λ h. omega arith) (λ h. omega arith) (λ h. omega arith))
      (keep_once (f LS) LS from_ss (each_ss (Later LS) (λ h. omega arith) (λ h. omega arith))
      (keep_once (f SS) SS from_sl (each_sl (Later SS) (λ h. omega arith))
      (keep_once (f SL) SL [] (nil_each (Later SL)) nil_once)))
