-- A lane's plan as the code holds it: a number for each position of the chain and one for its end. Its four lowest bits
-- are the set of the barriers that stand there, and the fifth says whether the operation there drains; then eight bits
-- each are where the position begins at levels 1, 2 and 3.
use Rattle.std.specs.Prelude.{ℕ, suc, ◌+◌, ◌*◌, ◌/◌, ◌%◌, ◌<◌, ◌≡◌, refl, Bool, false, not, ◌&&◌, List, [], ◌∷◌, map}
use Rattle.std.specs.Prelude.{eqb, length, get_or}
use mir.Val.{bool_byte}
use Rattle.file_format.specs.declared.accepted.Op.{Op}
use Rattle.file_format.specs.declared.accepted.Op.TheVariants.{Load, Store, Lock}
use Rattle.barrier_placement.specs.declared.cookbook.Barrier.{Barrier}
use Rattle.barrier_placement.specs.declared.cookbook.Barrier.TheVariants.{LL, LS, SS, SL}
use Rattle.barrier_placement.specs.Layout.{start}
use Rattle.barrier_placement.specs.Place.{chosen, stands, due, due_after}
use Rattle.barrier_placement.specs.Placed.{bit, bit_of}
use Rattle.barrier_placement.specs.Steps.{steps}
use Rattle.sheet_format.specs.declared.Level.{Level}
use Rattle.sheet_format.specs.declared.Level.TheVariants.{Level0, Level1, Level2, Level3}
use Rattle.sheet_format.specs.Levels.{drains, placed}
use Rattle.sheet_format.specs.Items.{operation_at}

-- the set of the barriers that a test picks
abbrev pub set_by : (Barrier → Bool) → ℕ
set_by f = bool_byte (f LL) + 2 * bool_byte (f LS) + 4 * bool_byte (f SS) + 8 * bool_byte (f SL)

-- a set of barriers before an operation as the plan has it: with bit 4 where the operation drains
abbrev pub plan_set : Op → ℕ → ℕ
plan_set o x = x + 16 * bool_byte (drains o)

-- SL of such a set at the levels of the targets: where bit 4 is not set
abbrev pub fence_in : ℕ → Bool
fence_in x = not (bit x 4) && bit x 3

-- the barriers of such a set at a level
abbrev pub kept_in : Level → ℕ → Barrier → Bool
kept_in Level0 x b = false
kept_in Level1 x b = bit x (bit_of b)
kept_in Level2 x LL = false
kept_in Level2 x LS = false
kept_in Level2 x SS = false
kept_in Level2 x SL = fence_in x
kept_in Level3 x LL = false
kept_in Level3 x LS = false
kept_in Level3 x SS = bit x 2
kept_in Level3 x SL = fence_in x

-- a count of instructions at level 1, one at level 2 and one at level 3
abbrev pub at_levels : ℕ → ℕ → ℕ → ℕ
at_levels first second third = 32 * first + 8192 * second + 2097152 * third

-- where position p of a lane begins
abbrev pub begin_number : (ℕ → Bool) → List Op → ℕ → ℕ
begin_number vol ops p =
    at_levels (start (placed Level1 vol ops) p) (start (placed Level2 vol ops) p) (start (placed Level3 vol ops) p)

-- what its plan has of position p
abbrev pub plan_number : (ℕ → Bool) → List Op → ℕ → ℕ
plan_number vol ops p =
    plan_set (operation_at ops p) (set_by (λ b. stands (steps vol ops) b p)) + begin_number vol ops p

-- where position p begins at a level, of its number; level 0 has no barriers
abbrev pub begin_in : Level → ℕ → ℕ → ℕ
begin_in Level0 x p = p
begin_in Level1 x p = x / 32 % 256
begin_in Level2 x p = x / 8192 % 256
begin_in Level3 x p = x / 2097152 % 256

-- how many instructions an operation makes at a level behind the barriers of this set
abbrev pub width_at : Level → ℕ → ℕ
width_at l x = suc (length (chosen (kept_in l x)))

abbrev pub width_number : ℕ → ℕ
width_number x = at_levels (width_at Level1 x) (width_at Level2 x) (width_at Level3 x)

-- a table of them, by the set
pub record Widths (w : List ℕ) : Type 0 where
  pub each : (x : ℕ) → x < 32 → get_or w x 0 ≡ width_number x

-- location 1 is volatile
abbrev vol : ℕ → Bool
vol x = eqb x 1

-- VL, PL, PS, VS, VL: LL before the second, LS before the third, SS before the fourth, SL before the last; level 2
-- keeps SL alone, level 3 SS and SL
example : map (plan_number vol (Load 0 1 ∷ Load 0 0 ∷ Store 0 0 ∷ Store 0 1 ∷ Load 0 1 ∷ []))
    (0 ∷ 1 ∷ 2 ∷ 3 ∷ 4 ∷ 5 ∷ [])
    ≡ (0 + at_levels 0 0 0) ∷ (1 + at_levels 1 1 1) ∷ (2 + at_levels 3 2 2) ∷ (4 + at_levels 5 3 3)
    ∷ (8 + at_levels 7 4 5) ∷ (0 + at_levels 9 6 7) ∷ []
unfolding stands due due_after
example = refl

-- VS, LOCK, VL: SL before the LOCK, which levels 2 and 3 leave out, and LL before the last
left_out : map (plan_number vol (Store 0 1 ∷ Lock 0 ∷ Load 0 1 ∷ [])) (0 ∷ 1 ∷ 2 ∷ 3 ∷ [])
    ≡ (0 + at_levels 0 0 0) ∷ (24 + at_levels 1 1 1) ∷ (1 + at_levels 3 2 2) ∷ (0 + at_levels 5 3 3) ∷ []
unfolding stands due due_after
left_out = refl
