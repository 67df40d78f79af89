-- The levels of a sheet: which barriers of the placement each keeps, and the lanes that come of it.
use Rattle.std.specs.Prelude.{ℕ, suc, Bool, true, false, not, ◌&&◌, List, [], ◌∷◌, map}
use Rattle.file_format.specs.declared.accepted.Op.{Op}
use Rattle.file_format.specs.declared.accepted.Op.TheVariants.{Set, Add, Load, Store, Lock, Unlock, Skip}
use Rattle.file_format.specs.Accepted.{Program, is_volatile}
use Rattle.barrier_placement.specs.declared.cookbook.Barrier.{Barrier}
use Rattle.barrier_placement.specs.declared.cookbook.Barrier.TheVariants.{LL, LS, SS, SL}
use Rattle.barrier_placement.specs.Chain.{Chain}
use Rattle.barrier_placement.specs.Steps.{steps}
use Rattle.barrier_placement.specs.Place.{stands, chosen}
use Rattle.barrier_placement.specs.Layout.{Placed}
use Rattle.sheet_format.specs.declared.Level.{Level}
use Rattle.sheet_format.specs.declared.Level.TheVariants.{Level0, Level1, Level2, Level3}
use Rattle.sheet_format.specs.Layout.{Instr, sheet}

-- LOCK: a target carries it out only with nothing of its lane pending, so that it drains by itself
abbrev pub drains : Op → Bool
drains (Set a c) = false
drains (Add a b) = false
drains (Load a x) = false
drains (Store a x) = false
drains (Lock l) = true
drains (Unlock l) = false
drains (Skip a t) = false

-- Does the level keep a barrier that stands before this operation? Level 0 drops all of them. The levels of the targets
-- keep the store-load barrier, SL, but not before a LOCK; level 3 keeps SS as well. They drop all else.
abbrev pub keeps : Level → Op → Barrier → Bool
keeps Level0 o b = false
keeps Level1 o b = true
keeps Level2 o LL = false
keeps Level2 o LS = false
keeps Level2 o SS = false
keeps Level2 o SL = not (drains o)
keeps Level3 o LL = false
keeps Level3 o LS = false
keeps Level3 o SS = true
keeps Level3 o SL = not (drains o)

-- How many instructions an operation makes at most, with its barriers. At level 1 two can stand before an access: one
-- of LL and LS, and one of SS and SL, each of the access's kind; levels 2 and 3 keep at most one of them.
abbrev pub widest : Level → ℕ
widest Level0 = 1
widest Level1 = 3
widest Level2 = 2
widest Level3 = 2

-- the operations from position p of a chain on, each with the barriers before it that the level keeps
abbrev pub place_from : Level → Chain → ℕ → List Op → List (Placed Op)
place_from l s p [] = []
place_from l s p (o ∷ os) =
    record { before = chosen (λ b. keeps l o b && stands s b p); oper = o } ∷ place_from l s (suc p) os

abbrev pub placed : Level → (ℕ → Bool) → List Op → List (Placed Op)
placed l vol ops = place_from l (steps vol ops) 0 ops

abbrev pub volatile_in : Program → ℕ → Bool
volatile_in k = is_volatile k.mask

-- the lanes of an accepted kernel at a level, and their instructions
abbrev pub placed_lanes : Level → Program → List (List (Placed Op))
placed_lanes l k = map (placed l (volatile_in k)) k.lanes

abbrev pub sheet_lanes : Level → Program → List (List Instr)
sheet_lanes l k = map sheet (placed_lanes l k)
