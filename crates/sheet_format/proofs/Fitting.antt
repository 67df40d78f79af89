-- Every instruction of a lawful kernel's sheet fits its bytes: theorem `lanes_fit`.
use Prim.Native.Nat.{ℕ, suc, ◌^◌, ◌≤◌, ◌<◌}
use native.Mathlib.Omega.{arith}
use mathlib.Core.Path.{◌≡◌, refl}
use mathlib.Core.Bool.{Bool}
use mathlib.Core.List.{List, [], ◌∷◌, map}
use mathlib.Core.Option.{some}
use lib.ListN.{length, get_or}
use Rattle.file_format.specs.declared.accepted.Op.{Op}
use Rattle.file_format.specs.declared.accepted.Op.TheVariants.{Set, Add, Load, Store, Lock, Unlock, Skip}
use Rattle.file_format.specs.Accepted.{Program, jump}
use Rattle.file_format.specs.Lawful.{Bounded, LawfulLane, Lawful}
use Rattle.barrier_placement.specs.Steps.{steps}
use Rattle.barrier_placement.specs.Layout.{start}
use Rattle.sheet_format.specs.Layout.{Instr, op, barrier, aim, sheet}
use Rattle.sheet_format.specs.declared.Level.{Level}
use Rattle.sheet_format.specs.Levels.{placed, sheet_lanes, volatile_in}
use Rattle.sheet_format.proofs.Laws.Cells.{Each, widest_few, cells_each, lane_length_lem, lane_start_lem}

-- the registers and operands fit a byte, the constant or position fits four
abbrev pub Fits : Instr → Type 0
Fits (op (Set a c)) = (a < 256) × (c < 2 ^ 32)
Fits (op (Add a b)) = (a < 256) × (b < 256)
Fits (op (Load a x)) = (a < 256) × (x < 256)
Fits (op (Store a x)) = (a < 256) × (x < 256)
Fits (op (Lock l)) = l < 256
Fits (op (Unlock l)) = l < 256
Fits (op (Skip a t)) = (a < 256) × (t < 2 ^ 32)
Fits (barrier b) = Unit {0}

-- and the count of a lane fits two
abbrev pub LaneFits : List Instr → Type 0
LaneFits is = Each Fits is × (length is < 65536)

pub fits_op : (r : ℕ → ℕ) (ls ks n p : ℕ) (o : Op) → ls ≤ 256 → ks ≤ 256 → Bounded ls ks n p o
    → ((t : ℕ) → jump o ≡ some t → r t < 2 ^ 32) → Fits (op (aim r o))
fits_op r ls ks n p (Set a c) wl wk h f = (omega (arith, h.0), h.1)
fits_op r ls ks n p (Add a b) wl wk h f = (omega (arith, h.0), omega (arith, h.1))
fits_op r ls ks n p (Load a x) wl wk h f = (omega (arith, h.0), omega (arith, h.1))
fits_op r ls ks n p (Store a x) wl wk h f = (omega (arith, h.0), omega (arith, h.1))
fits_op r ls ks n p (Lock l) wl wk h f = omega arith
fits_op r ls ks n p (Unlock l) wl wk h f = omega arith
fits_op r ls ks n p (Skip a t) wl wk h f = (omega (arith, h.0), f t refl)

module _ (l : Level) (vol : ℕ → Bool) (ls ks : ℕ) (wl : ls ≤ 256) (wk : ks ≤ 256) where
  lane_fits : (os : List Op) → LawfulLane ls ks os → LaneFits (sheet (placed l vol os))
  lane_fits os w = (
    cells_each l (steps vol os) at Fits (λ b. tt) os 0
        (λ i o e. fits_op at ls ks (length os) i o wl wk (w.bounded i o e) (λ t j. near t)),
    omega (arith, lane_length_lem l vol os w.short, widest_few l),
  )
    where
      at : ℕ → ℕ
      at = start (placed l vol os)

      near : (t : ℕ) → at t < 2 ^ 32
      near t = omega (arith, lane_start_lem l vol os w.short t, widest_few l)

  each_fits : (lanes : List (List Op)) → ((t : ℕ) → LawfulLane ls ks (get_or lanes t []))
      → Each LaneFits (map sheet (map (placed l vol) lanes))
  each_fits [] w = tt
  each_fits (os ∷ lanes) w = (lane_fits os (w 0), each_fits lanes (λ t. w (suc t)))

pub lanes_fit : (l : Level) (k : Program) → Lawful k → Each LaneFits (sheet_lanes l k)
lanes_fit l k w =
    each_fits l (volatile_in k) k.locations k.locks (omega (arith, w.few_locations)) (omega (arith, w.few_locks))
    k.lanes w.lane
