-- The barriers that stand directly before an operation of a lane, as the lane is read from a sheet.
use Rattle.std.specs.Prelude.{ℕ, zero, suc, ◌≡◌, refl, Bool, true, false, List, [], ◌∷◌, map, eqb}
use Rattle.file_format.specs.declared.accepted.Op.{Op}
use Rattle.file_format.specs.declared.accepted.Op.TheVariants.{Load, Store}
use Rattle.barrier_placement.specs.declared.cookbook.Barrier.{Barrier}
use Rattle.barrier_placement.specs.declared.cookbook.Barrier.TheVariants.{LL, SL}
use Rattle.barrier_placement.specs.Place.{stands, due, due_after}
use Rattle.sheet_format.specs.Layout.{Instr, op, barrier, sheet, has}
use Rattle.sheet_format.specs.declared.Level.TheVariants.{Level1, Level2}
use Rattle.sheet_format.specs.Levels.{placed}

-- those directly before the p-th operation, from 0; those behind the last operation count as before the next
abbrev pub barriers_before : List Instr → ℕ → List Barrier
barriers_before [] p = []
barriers_before (op o ∷ is) zero = []
barriers_before (op o ∷ is) (suc p) = barriers_before is p
barriers_before (barrier a ∷ is) zero = a ∷ barriers_before is zero
barriers_before (barrier a ∷ is) (suc p) = barriers_before is (suc p)

-- b is among them
abbrev pub stands_before : Barrier → List Instr → ℕ → Bool
stands_before b is p = has b (barriers_before is p)

-- location 1 is volatile
abbrev vol : ℕ → Bool
vol x = eqb x 1

-- VS, PL, VL
abbrev lane : List Op
lane = Store 0 1 ∷ Load 0 0 ∷ Load 0 1 ∷ []

-- SL stands before the VL and not before the PL, nor behind the last operation
example : map (stands_before SL (sheet (placed Level2 vol lane))) (0 ∷ 1 ∷ 2 ∷ 3 ∷ [])
    ≡ false ∷ false ∷ true ∷ false ∷ []
unfolding stands due due_after
example = refl

-- VL, PL: LL stands before the PL at level 1, and not at level 2
kept : stands_before LL (sheet (placed Level1 vol (Load 0 1 ∷ Load 0 0 ∷ []))) 1 ≡ true
unfolding stands due due_after
kept = refl

dropped : stands_before LL (sheet (placed Level2 vol (Load 0 1 ∷ Load 0 0 ∷ []))) 1 ≡ false
unfolding stands due due_after
dropped = refl
