-- The instructions of a lane as placement sees them, so that its theorems speak of the lanes of a sheet.
use Rattle.std.specs.Prelude.{ℕ, ◌≤◌, ◌≡◌, Bool, List, map, get_or}
use Rattle.std.proofs.Math.Option.{some}
use Rattle.std.proofs.Math.ListN.{get_elem?}
use Rattle.file_format.specs.declared.accepted.Op.{Op}
use Rattle.file_format.specs.declared.accepted.Op.TheVariants.{Set}
use Rattle.barrier_placement.specs.declared.cookbook.Barrier.{Barrier}
use Rattle.file_format.specs.Accepted.{jump}
use Rattle.barrier_placement.specs.Steps.{step_of, steps}
use Rattle.barrier_placement.specs.Place.{stands}
use Rattle.barrier_placement.specs.Sheet.{Item, bar, op as stepItem, written}
use Rattle.sheet_format.specs.Layout.{Instr, op, barrier}
use Rattle.sheet_format.specs.declared.Level.{Level}
use Rattle.sheet_format.specs.Levels.{keeps}

abbrev pub item_of : (ℕ → Bool) → Instr → Item
item_of vol (op o) = stepItem (step_of vol o)
item_of vol (barrier b) = bar b

abbrev pub items : (ℕ → Bool) → List Instr → List Item
items vol = map (item_of vol)

-- the operation at a position of a chain; behind its end there is none, and no barrier stands there
abbrev pub operation_at : List Op → ℕ → Op
operation_at ops p = get_or ops p (Set 0 0)

-- which barriers a level keeps before which position: what placement asks of a level
abbrev pub keeps_at : Level → List Op → Barrier → ℕ → Bool
keeps_at l ops b p = keeps l (operation_at ops p) b

-- the barriers that the level keeps before each position
abbrev pub kept_before : Level → (ℕ → Bool) → List Op → ℕ → List Barrier
kept_before l vol ops = written (stands (steps vol ops)) (keeps_at l ops)

-- every target is a position of a chain of n operations, or its end
abbrev pub TargetsWithin : ℕ → List Op → Type 0
TargetsWithin n ops = (p : ℕ) (o : Op) (t : ℕ) → get_elem? ops p ≡ some o → jump o ≡ some t → t ≤ n
