-- The placement, computed in one pass over the chain: at each position the classes before which b is due, that is, some
-- access on the way here calls for b before such a class, and no b has stood since.
use Rattle.std.specs.Prelude.{ℕ, zero, suc, ◌≡◌, refl, Bool, true, false, not, ◌&&◌, ◌||◌, List, [], ◌∷◌, ◌++◌, eqb}
use Rattle.std.specs.Prelude.{get_or}
use Rattle.barrier_placement.specs.Cookbook.{Class, PL, PS, VL, VS, Barrier, LL, LS, SS, SL, calls}
use Rattle.barrier_placement.specs.Chain.{Step, Access, Skip, Other, Chain, at}

-- a set of classes
pub record Classes : Type 0 where
  pub pl : Bool
  pub ps : Bool
  pub vl : Bool
  pub vs : Bool

abbrev pub has : Classes → Class → Bool
has r PL = r.pl
has r PS = r.ps
has r VL = r.vl
has r VS = r.vs

abbrev pub classes : (Class → Bool) → Classes
classes f = record { pl = f PL; ps = f PS; vl = f VL; vs = f VS }

abbrev pub no_classes : Classes
no_classes = classes (λ c. false)

-- does b stand before this step, given what is due there
abbrev pub stands_at : Step → (Class → Bool) → Bool
stands_at (Access c) due = due c
stands_at (Skip t) due = false
stands_at Other due = false

-- what this step itself calls for
abbrev pub raises : Barrier → Step → Class → Bool
raises b (Access c) d = calls b c d
raises b (Skip t) d = false
raises b Other d = false

-- what is due after a step: what was due before it unless b stands there, and what it calls for
abbrev pub after : Barrier → Step → (Class → Bool) → Class → Bool
after b x due d = (not (stands_at x due) && due d) || raises b x d

abbrev pub jumps : Step → ℕ → Bool
jumps (Access c) p = false
jumps (Skip t) p = eqb t p
jumps Other p = false

-- the test for Next, of a position q of the chain
abbrev pub leads : Chain → ℕ → ℕ → Bool
leads s q p = eqb p (suc q) || jumps (at s q) p

-- what arrives at p from the positions below k, of which dues says what is due after each
abbrev pub arrives : Chain → List Classes → ℕ → ℕ → Class → Bool
arrives s dues zero p d = false
arrives s dues (suc q) p d = (leads s q p && has (get_or dues q no_classes) d) || arrives s dues q p d

-- what is due after each of the first k positions
unfoldable pub due_after : Chain → Barrier → ℕ → List Classes
due_after s b zero = []
due_after s b (suc q) =
    let dues : List Classes = due_after s b q in
    dues ++ (classes (after b (at s q) (arrives s dues q q)) ∷ [])

-- b is due before an access of class d at p
unfoldable pub due : Chain → Barrier → ℕ → Class → Bool
due s b p = arrives s (due_after s b p) p p

-- b stands directly before the access at p
unfoldable pub stands : Chain → Barrier → ℕ → Bool
stands s b p = stands_at (at s p) (due s b p)

abbrev pub keep : Bool → Barrier → List Barrier → List Barrier
keep true b bs = b ∷ bs
keep false b bs = bs

-- the barriers that a test picks, in the order of the sheet
abbrev pub chosen : (Barrier → Bool) → List Barrier
chosen f = keep (f LL) LL (keep (f LS) LS (keep (f SS) SS (keep (f SL) SL [])))

-- the barriers before position p
abbrev pub before : Chain → ℕ → List Barrier
before s p = chosen (λ b. stands s b p)

-- SL stands before the volatile load, though a plain store lies between it and the volatile store
example : before (Access VS ∷ Access PS ∷ Access VL ∷ []) 2 ≡ SL ∷ []
unfolding stands due due_after
example = refl

-- LS stands before the plain store; the SKIP goes past it, so LS stands before the volatile store too
skipped : before (Access VL ∷ Skip 3 ∷ Access PS ∷ Access VS ∷ []) 3 ≡ LS ∷ SS ∷ []
unfolding stands due due_after
skipped = refl

-- the volatile load and the volatile store each call for a barrier before the last load
two : before (Access VL ∷ Access VS ∷ Access VL ∷ []) 2 ≡ LL ∷ SL ∷ []
unfolding stands due due_after
two = refl
