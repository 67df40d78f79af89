-- The lanes of an accepted kernel are fenced and disciplined, and their SKIPs go forward.
use mathlib.Core.Path.{◌≡◌, refl, ap}
use mathlib.Core.Bool.{Bool}
use mathlib.Core.List.{List, [], ◌∷◌, map}
use mathlib.Core.Option.{some}
use Prim.Native.Nat.{ℕ, zero, suc}
use native.Mathlib.Omega.{arith}
use lib.ListN.{get_or, get_elem?, get_or-map}
use Rattle.file_format.specs.declared.accepted.Op.{Op}
use Rattle.file_format.specs.declared.accepted.Op.TheVariants.{Set, Add, Load, Store, Lock, Unlock, Skip}
use Rattle.file_format.specs.Accepted.{Program}
use Rattle.file_format.specs.Lawful.{LawfulLane, Lawful}
use Rattle.barrier_placement.specs.declared.steps.Step.TheVariants.{Skip as SkipStep}
use Rattle.barrier_placement.specs.Chain.{at, Forward}
use Rattle.barrier_placement.proofs.Laws.Paths.{forward_of}
use Rattle.barrier_placement.specs.Steps.{step_of, steps}
use Rattle.barrier_placement.specs.Layout.{operations}
use Rattle.sheet_format.specs.Layout.{op}
use Rattle.sheet_format.specs.declared.Level.{Level}
use Rattle.sheet_format.specs.Levels.{placed, placed_lanes, volatile_in}
use Rattle.machine_spec.specs.declared.Machine.TheVariants.{Source, Target}
use Rattle.machine_spec.specs.declared.Model.{Model}
use Rattle.claims.proofs.Fenced.{AllFenced, kernel_program}
use Rattle.machine_spec.specs.Run.{program_for, level_of}
use Rattle.sheet_format.proofs.PlacedLanes.{placed_operations}
use Rattle.claims.proofs.PlacedFenced.{placed_fenced}
use Rattle.claims.proofs.HeldSets.{Disciplined, held_at, lane_disciplined}

skip_of : (vol : ℕ → Bool) (o : Op) (q : ℕ) → step_of vol o ≡ SkipStep q → (a : ℕ) × (o ≡ Skip a q)
skip_of vol (Set a c) q e = let z : ◌≡◌ {A = ℕ} 0 1 = cc in absurd (omega arith)
skip_of vol (Add a b) q e = let z : ◌≡◌ {A = ℕ} 0 1 = cc in absurd (omega arith)
skip_of vol (Load a x) q e = let z : ◌≡◌ {A = ℕ} 0 1 = cc in absurd (omega arith)
skip_of vol (Store a x) q e = let z : ◌≡◌ {A = ℕ} 0 1 = cc in absurd (omega arith)
skip_of vol (Lock l) q e = let z : ◌≡◌ {A = ℕ} 0 1 = cc in absurd (omega arith)
skip_of vol (Unlock l) q e = let z : ◌≡◌ {A = ℕ} 0 1 = cc in absurd (omega arith)
skip_of vol (Skip a t) q e = (a, cc)

skip_at : (vol : ℕ → Bool) (os : List Op) (p q : ℕ) → at (steps vol os) p ≡ SkipStep q → (a : ℕ)
    × (get_elem? os p ≡ some (Skip a q))
skip_at vol [] p q e = let z : ◌≡◌ {A = ℕ} 0 1 = cc in absurd (omega arith)
skip_at vol (o ∷ os) zero q e = let x = skip_of vol o q e in (x.0, ap some x.1)
skip_at vol (o ∷ os) (suc p) q e = skip_at vol os p q e

module _ {ls ks : ℕ} {os : List Op} (w : LawfulLane ls ks os) where
  -- every SKIP goes on, as check 7 demands
  pub forward : (vol : ℕ → Bool) → Forward (steps vol os)
  forward vol =
      forward_of (steps vol os) (λ p q e. let x = skip_at vol os p q e in (w.bounded p (Skip x.0 q) x.1).1)

kernel_placed : (l : Level) (vol : ℕ → Bool) (lanes : List (List Op))
    → kernel_program (map (placed l vol) lanes) ≡ map (map op) lanes
kernel_placed l vol [] = refl
kernel_placed l vol (os ∷ lanes) = λ i. map op (placed_operations l (steps vol os) 0 os i) ∷ kernel_placed l vol lanes i

module _ (k : Program) where
  pub lane_placed : (l : Level) (t : ℕ) → get_or (placed_lanes l k) t []
      ≡ placed l (volatile_in k) (get_or k.lanes t [])
  lane_placed l t = get_or-map (placed l (volatile_in k)) k.lanes t []

  pub source_program : (l : Level) → kernel_program (placed_lanes l k) ≡ program_for Source k
  source_program l = kernel_placed l (volatile_in k) k.lanes

  module _ (w : Lawful k) where
    pub fenced : (m : Model) (t : ℕ) → AllFenced m (volatile_in k) (get_or (placed_lanes (level_of (Target m)) k) t [])
    fenced m t =
        rw (lane_placed (level_of (Target m)) t)
        (placed_fenced m (volatile_in k) (get_or k.lanes t []) (forward (w.lane t) (volatile_in k)))

    pub disciplined : (l : Level) (t : ℕ)
        → Disciplined k.locks (operations (get_or (placed_lanes l k) t [])) (held_at (get_or k.lanes t []))
    disciplined l t =
        rw (lane_placed l t, placed_operations l (steps (volatile_in k) (get_or k.lanes t [])) 0 (get_or k.lanes t []))
        (lane_disciplined k.locations k.locks (get_or k.lanes t []) w.few_locks (w.lane t))
