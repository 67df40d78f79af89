-- At level 0 a lane is its operations: theorems `lane0`, of one lane, `lawful_lanes0` and `file_lanes0`, of all.
use Prim.Native.Nat.{ℕ, zero, suc, ◌≤◌}
use native.Mathlib.Omega.{arith}
use mathlib.Core.Path.{◌≡◌, refl, sym, ap₂, subst, ◌∙◌}
use mathlib.Core.Bool.{Bool}
use mathlib.Core.List.{List, [], ◌∷◌, map}
use mathlib.Core.Option.{some}
use lib.ListN.{length, get_or, get_elem?, take}
use Rattle.file_format.specs.declared.accepted.Op.{Op}
use Rattle.file_format.specs.Fields.{mask, lane_count, heads}
use Rattle.file_format.specs.Accepted.{Program, program_of, is_volatile, records_at, ops_at, jump}
use Rattle.file_format.specs.Lawful.{Lawful}
use Rattle.file_format.proofs.Laws.Stored.{ops_from_length}
use Rattle.barrier_placement.specs.Chain.{Chain}
use Rattle.barrier_placement.specs.Steps.{steps}
use Rattle.sheet_format.specs.declared.Level.TheVariants.{Level0}
use Rattle.barrier_placement.specs.Layout.{start}
use Rattle.sheet_format.specs.Layout.{op, cells, sheet}
use Rattle.sheet_format.specs.Levels.{place_from, placed, sheet_lanes, volatile_in}
use Rattle.sheet_format.specs.Items.{TargetsWithin}
use Rattle.sheet_format.proofs.Laws.Aim.{aim_own, aim_agrees}
use Rattle.sheet_format.proofs.Laws.Targets.{targets_within, targets_inside}

module _ (s : Chain) where
  start0 : (os : List Op) (p i : ℕ) → i ≤ length os → start (place_from Level0 s p os) i ≡ i
  start0 [] p zero h = refl
  start0 [] p (suc i) h = absurd (omega arith)
  start0 (o ∷ os) p zero h = refl
  start0 (o ∷ os) p (suc i) h = omega (arith, start0 os (suc p) i (omega arith))

  cells0 : (r : ℕ → ℕ) (os : List Op) (p : ℕ)
      → ((i : ℕ) (o : Op) (t : ℕ) → get_elem? os i ≡ some o → jump o ≡ some t → r t ≡ t)
      → cells r (place_from Level0 s p os) ≡ map op os
  cells0 r [] p h = refl
  cells0 r (o ∷ os) p h =
      ap₂ (λ x xs. op x ∷ xs) (aim_agrees r (λ t. t) o (λ t j. h 0 o t refl j) ∙ aim_own o)
      (cells0 r os (suc p) (λ i. h (suc i)))

-- every SKIP leads to a position of the lane, or to its end
abbrev Within : List Op → Type 0
Within os = TargetsWithin (length os) os

module _ (vol : ℕ → Bool) where
  pub lane0 : (os : List Op) → Within os → sheet (placed Level0 vol os) ≡ map op os
  lane0 os w =
      cells0 (steps vol os) (start (placed Level0 vol os)) os 0
      (λ i o t e j. start0 (steps vol os) os 0 t (w i o t e j))

  lanes0 : (lanes : List (List Op)) → ((t : ℕ) → Within (get_or lanes t []))
      → map sheet (map (placed Level0 vol) lanes) ≡ map (map op) lanes
  lanes0 [] w = refl
  lanes0 (os ∷ lanes) w = ap₂ (λ x xs. x ∷ xs) (lane0 os (w 0)) (lanes0 lanes (λ t. w (suc t)))

pub lawful_lanes0 : (k : Program) → Lawful k → sheet_lanes Level0 k ≡ map (map op) k.lanes
lawful_lanes0 k w = lanes0 (volatile_in k) k.lanes (λ t. targets_within (w.lane t))

module _ (s : List ℕ) where
  pub ops_within : (h : ℕ) → Within (ops_at s h)
  ops_within h =
      subst (λ n. TargetsWithin n (ops_at s h)) (sym (ops_from_length s 0 (records_at s h)))
      (targets_inside s (records_at s h))

  lane_within : (hs : List ℕ) (t : ℕ) → Within (get_or (map (ops_at s) hs) t [])
  lane_within [] t = λ p o u e j. let z : ◌≡◌ {A = ℕ} 0 1 = cc in absurd (omega arith)
  lane_within (h ∷ hs) zero = ops_within h
  lane_within (h ∷ hs) (suc t) = lane_within hs t

  pub file_lanes0 : sheet_lanes Level0 (program_of s) ≡ map (map op) (program_of s).lanes
  file_lanes0 =
      lanes0 (is_volatile (mask s)) (program_of s).lanes (lane_within (take (lane_count s) (heads s)))
