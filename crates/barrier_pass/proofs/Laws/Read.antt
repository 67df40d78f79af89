-- Laws of what is read from a plan: the barriers that stand at a position, and where it begins at each level.
use Prim.Native.Nat.{ℕ, zero, suc, ◌+◌, ◌*◌, ◌≤◌, ◌<◌}
use native.Mathlib.Omega.{arith}
use mathlib.Core.Path.{◌≡◌, sym, ap, ◌∙◌}
use mathlib.Core.Bool.{Bool, ◌&&◌}
use mathlib.Core.List.{List}
use lib.ListN.{length}
use Rattle.file_format.specs.declared.accepted.Op.{Op}
use Rattle.barrier_placement.specs.declared.cookbook.Barrier.{Barrier}
use Rattle.barrier_placement.specs.Layout.{start}
use Rattle.barrier_placement.specs.Place.{stands}
use Rattle.barrier_placement.specs.Steps.{steps}
use Rattle.barrier_placement.proofs.Laws.Layout.{start_zero}
use Rattle.sheet_format.specs.declared.Level.{Level}
use Rattle.sheet_format.specs.declared.Level.TheVariants.{Level0, Level1, Level2, Level3}
use Rattle.sheet_format.specs.Levels.{keeps, placed}
use Rattle.sheet_format.specs.Items.{operation_at}
use Rattle.sheet_format.proofs.Laws.Cells.{widest_few, lane_start_lem}
use Rattle.barrier_pass.specs.Plan.{set_by, plan_set, kept_in, plan_number, begin_in}
use Rattle.barrier_pass.proofs.Laws.Plan.{next_begins}
use Rattle.barrier_pass.proofs.Laws.Sets.{set_small, bit_set, plan_set_small, plan_set_kept, kept_lowest}

pub begin_small : (l : Level) (x p : ℕ) → p ≤ 64 → begin_in l x p < 256
begin_small Level0 x p h = omega arith
begin_small Level1 x p h = omega arith
begin_small Level2 x p h = omega arith
begin_small Level3 x p h = omega arith

-- ## the barriers

module _ (vol : ℕ → Bool) (ops : List Op) where
  -- those that stand there and that the level keeps
  pub plan_kept : (l : Level) (p : ℕ) (b : Barrier)
      → kept_in l (plan_number vol ops p) b ≡ (keeps l (operation_at ops p) b && stands (steps vol ops) b p)
  plan_kept l p b =
      let o = operation_at ops p in
      let f : Barrier → Bool = λ a. stands (steps vol ops) a p in
      let x = set_by f in
      let high : ℕ =
      start (placed Level1 vol ops) p + 256 * start (placed Level2 vol ops) p
      + 65536 * start (placed Level3 vol ops) p in
      let whole : plan_number vol ops p ≡ plan_set o x + 32 * high = omega arith in
      ap (λ n. kept_in l n b) whole ∙ kept_lowest l high (plan_set o x) (plan_set_small o x (set_small f)) b
      ∙ plan_set_kept l o x (set_small f) b ∙ ap (λ t. keeps l o b && t) (bit_set f b)

  -- ## where a position begins

  -- at level 0 the operations stand one behind the other
  level0_begins : (p : ℕ) → p ≤ length ops → start (placed Level0 vol ops) p ≡ p
  level0_begins zero h = start_zero (placed Level0 vol ops)
  level0_begins (suc p) h = omega (arith, next_begins Level0 vol ops p h, level0_begins p (omega arith))

  low : (p : ℕ) → plan_set (operation_at ops p) (set_by (λ b. stands (steps vol ops) b p)) < 32
  low p = plan_set_small (operation_at ops p) _ (set_small (λ b. stands (steps vol ops) b p))

  module _ (short : length ops ≤ 64) where
    begins_few : (l : Level) (p : ℕ) → start (placed l vol ops) p < 256
    begins_few l p = omega (arith, lane_start_lem l vol ops short p, widest_few l)

    pub plan_begins : (l : Level) (p : ℕ) → p ≤ length ops
        → begin_in l (plan_number vol ops p) p ≡ start (placed l vol ops) p
    plan_begins Level0 p h = sym (level0_begins p h)
    plan_begins Level1 p h = omega (arith, low p, begins_few Level1 p)
    plan_begins Level2 p h = omega (arith, low p, begins_few Level1 p, begins_few Level2 p)
    plan_begins Level3 p h = omega (arith, low p, begins_few Level1 p, begins_few Level2 p, begins_few Level3 p)
