-- The programs of an accepted kernel: each operand has a cell, each LOAD a register, and each lane is short.
use Prim.Native.Nat.{ℕ, ◌≤◌, ◌<◌}
use mathlib.Core.Path.{◌≡◌, refl, sym, ap, subst, ◌∙◌}
use mathlib.Core.List.{List, []}
use mathlib.Core.Option.{some}
use native.Mathlib.Omega.{arith}
use lib.ListN.{length, get_or, get_elem?, get_or-map}
use Rattle.file_format.specs.declared.accepted.Op.{Op}
use Rattle.file_format.specs.declared.accepted.Op.TheVariants.{Set, Add, Load, Store, Lock, Unlock, Skip}
use Rattle.file_format.specs.Accepted.{Program}
use Rattle.file_format.specs.Lawful.{Bounded, Lawful}
use Rattle.barrier_placement.specs.declared.cookbook.Barrier.{Barrier}
use Rattle.barrier_placement.specs.Steps.{steps}
use Rattle.barrier_placement.specs.Layout.{start}
use Rattle.sheet_format.specs.Layout.{Instr, op, barrier, aim, sheet}
use Rattle.sheet_format.specs.Levels.{placed, placed_lanes, volatile_in}
use Rattle.sheet_format.proofs.Laws.Aim.{aim_cases}
use Rattle.sheet_format.proofs.Laws.Cells.{Each, each_at, cells_each, lane_length_lem}
use Rattle.machine_spec.specs.declared.Machine.{Machine}
use Rattle.machine_spec.specs.State.{idle}
use Rattle.machine_spec.specs.Run.{program_for, level_of}
use Rattle.machine_spec.proofs.Levels.{program_lanes, program_narrow}
use Rattle.claims.proofs.KernelLanes.{lane_placed}
use Rattle.machine_state.specs.Ready.{Asks}

-- an idle lane has what the instruction asks: its operand has a cell
abbrev pub Ranged : Instr → Type 0
Ranged i = Asks i idle

module _ (ls ks n p : ℕ) (wl : ls ≤ 16) (wk : ks ≤ 4) where
  ranged_op : (o : Op) → Bounded ls ks n p o → Ranged (op o)
  ranged_op (Set a c) h = tt
  ranged_op (Add a b) h = tt
  ranged_op (Load a x) h = omega (arith, h.1)
  ranged_op (Store a x) h = (omega (arith, h.1), omega arith)
  ranged_op (Lock l) h = tt
  ranged_op (Unlock l) h = (omega arith, omega arith)
  ranged_op (Skip a t) h = tt

-- wherever a SKIP is aimed
ranged_aim : (r : ℕ → ℕ) (o : Op) → Ranged (op o) → Ranged (op (aim r o))
ranged_aim = aim_cases (λ o q. Ranged (op q) → Ranged (op o)) (λ o h. h) (λ a t u h. h)

-- a LOAD has a register
abbrev Loads : Instr → Type 0
Loads i = (a x : ℕ) → i ≡ op (Load a x) → a < 8

load_aimed : (r : ℕ → ℕ) (o : Op) (a x : ℕ) → aim r o ≡ Load a x → o ≡ Load a x
load_aimed =
    aim_cases (λ o q. (a x : ℕ) → o ≡ Load a x → q ≡ Load a x) (λ o a x e. e)
    (λ b t u a x e. let z : ◌≡◌ {A = ℕ} 0 1 = cc in absurd (omega arith))

module _ (k : Program) (w : Lawful k) (t : ℕ) where
  abbrev os : List Op
  os = get_or k.lanes t []

  program_is : (m : Machine) → get_or (program_for m k) t [] ≡ sheet (placed (level_of m) (volatile_in k) os)
  program_is m =
      ap (λ x. get_or x t []) (program_lanes k w m) ∙ get_or-map sheet (placed_lanes (level_of m) k) t []
      ∙ ap sheet (lane_placed k (level_of m) t)

  -- what holds of each operation, wherever a SKIP is aimed, and of each barrier
  module _ (P : Instr → Type 0) (bars : (b : Barrier) → P (barrier b))
      (aims : (r : ℕ → ℕ) (o : Op) → P (op o) → P (op (aim r o)))
      (ops : (i : ℕ) (o : Op) → get_elem? os i ≡ some o → P (op o)) where
    program_each : (m : Machine) (p : ℕ) (i : Instr) → get_elem? (get_or (program_for m k) t []) p ≡ some i → P i
    program_each m =
        let at = start (placed (level_of m) (volatile_in k) os) in
        each_at P (get_or (program_for m k) t [])
        (subst (Each P) (sym (program_is m))
        (cells_each (level_of m) (steps (volatile_in k) os) at P bars os 0 (λ i o e. aims at o (ops i o e))))

  -- each instruction's operand has a cell
  pub program_ranged : (m : Machine) (p : ℕ) (i : Instr) → get_elem? (get_or (program_for m k) t []) p ≡ some i
      → Ranged i
  program_ranged =
      program_each Ranged (λ b. tt) ranged_aim
      (λ i o e. ranged_op k.locations k.locks (length os) i w.few_locations w.few_locks o
      ((w.lane t).bounded i o e))

  -- each LOAD names one of eight registers
  pub program_loads : (m : Machine) (p a x : ℕ) → get_elem? (get_or (program_for m k) t []) p ≡ some (op (Load a x))
      → a < 8
  program_loads m p a x e =
      program_each Loads (λ b a x q. let z : ◌≡◌ {A = ℕ} 0 1 = cc in absurd (omega arith))
      (λ r o h a x q. let aimed : aim r o ≡ Load a x = cc in h a x (ap op (load_aimed r o a x aimed)))
      (λ i o at a x q. let same : o ≡ Load a x = cc in ((w.lane t).bounded i (Load a x) (at ∙ ap some same)).0)
      m p (op (Load a x)) e a x refl

  pub program_short : (m : Machine) → length (get_or (program_for m k) t []) < 65536
  program_short m =
      omega (
        arith,
        ap length (program_is m),
        lane_length_lem (level_of m) (volatile_in k) os (w.lane t).short,
        program_narrow m,
      )
