-- The barriers that stand directly before each operation of a sheet's lane are those that placement puts there and the
-- level keeps: theorem `lane_before`.
use Prim.Native.Nat.{ℕ, zero, suc, ◌+◌, ◌≤◌}
use native.Mathlib.Nat.{zero-add, add-zero}
use native.Mathlib.Omega.{arith}
use mathlib.Core.Path.{◌≡◌, refl, sym, ap, ◌∙◌}
use mathlib.Core.Bool.{Bool, true, false, ◌&&◌, and-false}
use mathlib.Core.List.{List, [], ◌∷◌, ◌++◌, map}
use lib.ListN.{length, length-map, get_or-eq_default}
use Rattle.file_format.specs.declared.accepted.Op.{Op}
use Rattle.barrier_placement.specs.declared.cookbook.Barrier.{Barrier}
use Rattle.barrier_placement.specs.declared.cookbook.Barrier.TheVariants.{LL, LS, SS, SL}
use Rattle.barrier_placement.specs.declared.steps.Step.TheVariants.{Other}
use Rattle.barrier_placement.specs.Cookbook.{same}
use Rattle.barrier_placement.specs.Chain.{Chain}
use Rattle.barrier_placement.specs.Steps.{step_of, steps}
use Rattle.barrier_placement.specs.Place.{stands_at, due, stands, keep, chosen}
use Rattle.barrier_placement.specs.Layout.{Placed, barriers_at, start}
use Rattle.sheet_format.specs.Layout.{Instr, op, barrier, aim, cells, sheet, has}
use Rattle.sheet_format.specs.declared.Level.{Level}
use Rattle.sheet_format.specs.Levels.{keeps, place_from, placed}
use Rattle.sheet_format.specs.Items.{operation_at, kept_before}
use Rattle.sheet_format.specs.Before.{barriers_before}

-- ## the barriers that a test picks

pub chosen_ext : {f g : Barrier → Bool} → ((b : Barrier) → f b ≡ g b) → chosen f ≡ chosen g
chosen_ext {f} {g} h = rw (h LL, h LS, h SS, h SL)

-- a barrier is among the chosen ones exactly when the test picks it
keep_off : (b a : Barrier) (t : Bool) (bs : List Barrier) → same b a ≡ false → has b (keep t a bs) ≡ has b bs
keep_off b a true bs e = rw e
keep_off b a false bs e = refl

keep_on : (b a : Barrier) (t : Bool) (bs : List Barrier) → same b a ≡ true → has b bs ≡ false → has b (keep t a bs) ≡ t
keep_on b a true bs e h = rw e
keep_on b a false bs e h = h

pub has_chosen : (f : Barrier → Bool) (b : Barrier) → has b (chosen f) ≡ f b
has_chosen f LL =
    keep_on LL LL (f LL) _ refl
    (keep_off LL LS (f LS) _ refl ∙ keep_off LL SS (f SS) _ refl ∙ keep_off LL SL (f SL) _ refl)
has_chosen f LS =
    keep_off LS LL (f LL) _ refl
    ∙ keep_on LS LS (f LS) _ refl (keep_off LS SS (f SS) _ refl ∙ keep_off LS SL (f SL) _ refl)
has_chosen f SS =
    keep_off SS LL (f LL) _ refl ∙ keep_off SS LS (f LS) _ refl
    ∙ keep_on SS SS (f SS) _ refl (keep_off SS SL (f SL) _ refl)
has_chosen f SL =
    keep_off SL LL (f LL) _ refl ∙ keep_off SL LS (f LS) _ refl ∙ keep_off SL SS (f SS) _ refl
    ∙ keep_on SL SL (f SL) [] refl refl

-- ## before each operation

before_first : (bs : List Barrier) (o : Op) (is : List Instr) → barriers_before (map barrier bs ++ op o ∷ is) 0 ≡ bs
before_first [] o is = refl
before_first (b ∷ bs) o is = ap (λ x. b ∷ x) (before_first bs o is)

before_later : (bs : List Barrier) (o : Op) (is : List Instr) (p : ℕ)
    → barriers_before (map barrier bs ++ op o ∷ is) (suc p) ≡ barriers_before is p
before_later [] o is p = refl
before_later (b ∷ bs) o is p = before_later bs o is p

cells_before : (r : ℕ → ℕ) (ps : List (Placed Op)) (p : ℕ) → barriers_before (cells r ps) p ≡ barriers_at ps p
cells_before r [] p = refl
cells_before r (x ∷ ps) zero = before_first x.before (aim r x.oper) (cells r ps)
cells_before r (x ∷ ps) (suc p) = before_later x.before (aim r x.oper) (cells r ps) p ∙ cells_before r ps p

-- of the operations from position q of the chain on, behind which nothing stands
from_before : (l : Level) (s : Chain) (os : List Op) (q p : ℕ)
    → ((b : Barrier) (i : ℕ) → length os ≤ i → stands s b (q + i) ≡ false)
    → barriers_at (place_from l s q os) p ≡ chosen (λ b. keeps l (operation_at os p) b && stands s b (q + p))
from_before l s [] q p h =
    let o : Op = operation_at [] p in
    chosen_ext {f = λ b. false}
    (λ b. sym (ap (λ x. keeps l o b && x) (h b p (omega arith)) ∙ and-false (keeps l o b)))
from_before l s (o ∷ os) q zero h = ap (λ n. chosen (λ b. keeps l o b && stands s b n)) (sym (add-zero q))
from_before l s (o ∷ os) q (suc p) h =
    let shift : (i : ℕ) → suc q + i ≡ q + suc i = λ i. omega arith in
    from_before l s os (suc q) p (λ b i g. ap (stands s b) (shift i) ∙ h b (suc i) (omega arith))
    ∙ ap (λ n. chosen (λ b. keeps l (operation_at os p) b && stands s b n)) (shift p)

-- nothing stands at the end of a chain, nor behind it
pub stands_none : (s : Chain) (b : Barrier) (p : ℕ) → length s ≤ p → stands s b p ≡ false
unfolding stands
stands_none s b p h = ap (λ x. stands_at x (due s b p)) (get_or-eq_default s Other {n = p} h)

module _ (l : Level) (vol : ℕ → Bool) (ops : List Op) (p : ℕ) where
  pub placed_before : barriers_at (placed l vol ops) p ≡ kept_before l vol ops p
  placed_before =
      from_before l (steps vol ops) ops 0 p
      (λ b i g. ap (stands (steps vol ops) b) (zero-add i)
      ∙ stands_none (steps vol ops) b i (omega (arith, length-map ops (step_of vol))))
      ∙ ap (λ n. chosen (λ b. keeps l (operation_at ops p) b && stands (steps vol ops) b n)) (zero-add p)

  pub lane_before : barriers_before (sheet (placed l vol ops)) p ≡ kept_before l vol ops p
  lane_before = cells_before (start (placed l vol ops)) (placed l vol ops) p ∙ placed_before
