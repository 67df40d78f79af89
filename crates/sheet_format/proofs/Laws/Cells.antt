-- Laws of a lane's part of a sheet: how long it is, and what holds of each of its instructions.
use Prim.Native.Nat.{ℕ, zero, suc, ◌*◌, ◌≤◌}
use native.Mathlib.Nat.{suc-mul, mul-le-mul_right}
use native.Mathlib.Omega.{arith}
use mathlib.Core.Path.{◌≡◌, refl, subst}
use mathlib.Core.Bool.{Bool, true, false, ◌&&◌, and-false}
use mathlib.Core.List.{List, [], ◌∷◌, ◌++◌, map}
use mathlib.Core.Option.{some}
use lib.ListN.{length, get_elem?}
use Rattle.laws.proofs.Bools.{by_test}
use Rattle.file_format.specs.declared.accepted.Op.{Op}
use Rattle.barrier_placement.specs.declared.cookbook.Barrier.{Barrier}
use Rattle.barrier_placement.specs.declared.cookbook.Barrier.TheVariants.{SS, SL}
use Rattle.barrier_placement.specs.Chain.{Chain}
use Rattle.barrier_placement.specs.Steps.{steps}
use Rattle.barrier_placement.specs.Place.{stands, keep, chosen}
use Rattle.barrier_placement.specs.Layout.{Placed, start}
use Rattle.barrier_placement.proofs.Laws.Chosen.{keep_one}
use Rattle.barrier_placement.proofs.Laws.Kinds.{store_once, before_few}
use Rattle.barrier_placement.proofs.Laws.Layout.{layout_end}
use Rattle.sheet_format.specs.Layout.{Instr, op, barrier, aim, cells, sheet}
use Rattle.sheet_format.specs.declared.Level.{Level}
use Rattle.sheet_format.specs.declared.Level.TheVariants.{Level0, Level1, Level2, Level3}
use Rattle.sheet_format.specs.Levels.{keeps, widest, place_from, placed}

-- P holds of each element
abbrev pub Each : {A : Type 0} → (A → Type 0) → List A → Type 0
Each P [] = Unit {0}
Each P (x ∷ xs) = P x × Each P xs

pub each_at : {A : Type 0} (P : A → Type 0) (xs : List A) → Each P xs → (p : ℕ) (x : A) → get_elem? xs p ≡ some x → P x
each_at P [] h p x e = let z : ◌≡◌ {A = ℕ} 0 1 = cc in absurd (omega arith)
each_at P (y ∷ xs) h zero x e = let same : y ≡ x = cc in subst P same h.0
each_at P (y ∷ xs) h (suc p) x e = each_at P xs h.1 p x e

pub each_append : {A : Type 0} (P : A → Type 0) (xs ys : List A) → Each P xs → Each P ys → Each P (xs ++ ys)
each_append P [] ys h g = g
each_append P (x ∷ xs) ys h g = (h.0, each_append P xs ys h.1 g)

keep_length : (t : Bool) (b : Barrier) (bs : List Barrier) → length (keep t b bs) ≤ suc (length bs)
keep_length true b bs = omega arith
keep_length false b bs = omega arith

each_bar : (P : Instr → Type 0) → ((b : Barrier) → P (barrier b)) → (bs : List Barrier) (is : List Instr)
    → Each P is → Each P (map barrier bs ++ is)
each_bar P h [] is w = w
each_bar P h (b ∷ bs) is w = (h b, each_bar P h bs is w)

-- with the barriers that its level keeps, an operation makes at most so many instructions as the level says
kept_few : (l : Level) (o : Op) (s : Chain) (p : ℕ)
    → suc (length (chosen (λ b. keeps l o b && stands s b p))) ≤ widest l
kept_few Level0 o s p = omega arith
kept_few Level1 o s p = omega (arith, before_few s p)
kept_few Level2 o s p = omega (arith, keep_length (keeps Level2 o SL && stands s SL p) SL [])
kept_few Level3 o s p =
    let once = by_test (λ t. (stands s SS p && (t && stands s SL p)) ≡ false) (store_once s p)
    (and-false (stands s SS p)) (keeps Level3 o SL) in
    omega (arith, keep_one (stands s SS p) (keeps Level3 o SL && stands s SL p) SS SL [] once)

pub widest_few : (l : Level) → widest l ≤ 3
widest_few Level0 = omega arith
widest_few Level1 = omega arith
widest_few Level2 = omega arith
widest_few Level3 = omega arith

module _ (l : Level) (s : Chain) where
  start_small : (os : List Op) (p i : ℕ) → start (place_from l s p os) i ≤ length os * widest l
  start_small [] p i = omega arith
  start_small (o ∷ os) p zero = omega arith
  start_small (o ∷ os) p (suc i) =
      omega (arith, suc-mul (length os) (widest l), start_small os (suc p) i, kept_few l o s p)

  module _ (r : ℕ → ℕ) where
    -- what holds of every barrier and of every operation of the chain, newly aimed, holds of each instruction
    pub cells_each : (P : Instr → Type 0) → ((b : Barrier) → P (barrier b)) → (os : List Op) (p : ℕ)
        → ((i : ℕ) (o : Op) → get_elem? os i ≡ some o → P (op (aim r o))) → Each P (cells r (place_from l s p os))
    cells_each P bars [] p h = tt
    cells_each P bars (o ∷ os) p h =
        each_bar P bars (chosen (λ b. keeps l o b && stands s b p)) (op (aim r o) ∷ cells r (place_from l s (suc p) os))
        (h 0 o refl, cells_each P bars os (suc p) (λ i. h (suc i)))

-- a lane is as long as where its end is
pub lane_end : (ps : List (Placed Op)) → length (sheet ps) ≡ start ps (length ps)
lane_end ps = layout_end barrier (λ o. op (aim (start ps) o)) ps

-- a lane of at most 64 operations
module _ (l : Level) (vol : ℕ → Bool) (os : List Op) (short : length os ≤ 64) where
  pub lane_start_lem : (i : ℕ) → start (placed l vol os) i ≤ 64 * widest l
  lane_start_lem i = omega (arith, start_small l (steps vol os) os 0 i, mul-le-mul_right (widest l) short)

  pub lane_length_lem : length (sheet (placed l vol os)) ≤ 64 * widest l
  lane_length_lem = rw (lane_end (placed l vol os)) (lane_start_lem _)
