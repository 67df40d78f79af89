-- A lane of a sheet is, as placement sees it, the placed lane that placement's theorems speak of: theorem
-- `items_placed`.
use Prim.Native.Nat.{ℕ, suc}
use mathlib.Core.Path.{◌≡◌, refl, sym, ap, ap₂, ◌∙◌}
use mathlib.Core.Bool.{Bool}
use mathlib.Core.List.{List, [], ◌∷◌, ◌++◌, map, map-append, map-map}
use lib.ListN.{length, length-map}
use Rattle.file_format.specs.declared.accepted.Op.{Op}
use Rattle.file_format.specs.declared.accepted.Op.TheVariants.{Set, Add, Load, Store, Lock, Unlock, Skip}
use Rattle.barrier_placement.specs.declared.cookbook.Barrier.{Barrier}
use Rattle.barrier_placement.specs.Chain.{Chain}
use Rattle.barrier_placement.specs.Steps.{step_of, steps}
use Rattle.barrier_placement.specs.Layout.{Placed, operations, start, layout}
use Rattle.barrier_placement.specs.Sheet.{bar, items_of, op as stepItem, aim as aimStep}
use Rattle.sheet_format.specs.Layout.{op, barrier, aim, sheet}
use Rattle.sheet_format.specs.declared.Level.{Level}
use Rattle.sheet_format.specs.Levels.{place_from, placed}
use Rattle.sheet_format.specs.Items.{item_of, items}

-- placing leaves the operations as they are
pub placed_operations : (l : Level) (s : Chain) (p : ℕ) (os : List Op) → operations (place_from l s p os) ≡ os
placed_operations l s p [] = refl
placed_operations l s p (o ∷ os) = ap (λ x. o ∷ x) (placed_operations l s (suc p) os)

pub placed_count : (l : Level) (vol : ℕ → Bool) (ops : List Op) → length (placed l vol ops) ≡ length ops
placed_count l vol ops =
    sym (length-map (placed l vol ops) (λ (x : Placed Op). x.oper))
    ∙ ap length (placed_operations l (steps vol ops) 0 ops)

-- a function of each instruction
layout_map : {A I J : Type 0} (f : I → J) (b : Barrier → I) (put : A → I) (ps : List (Placed A))
    → map f (layout b put ps) ≡ layout (λ x. f (b x)) (λ a. f (put a)) ps
layout_map f b put [] = refl
layout_map f b put (x ∷ ps) =
    map-append f (map b x.before) (put x.oper ∷ layout b put ps)
    ∙ ap₂ (λ l m. l ++ f (put x.oper) ∷ m) (map-map f b x.before) (layout_map f b put ps)

module _ (vol : ℕ → Bool) where
  aim_step : (r : ℕ → ℕ) (o : Op) → step_of vol (aim r o) ≡ aimStep r (step_of vol o)
  aim_step r (Set a c) = refl
  aim_step r (Add a b) = refl
  aim_step r (Load a x) = refl
  aim_step r (Store a x) = refl
  aim_step r (Lock l) = refl
  aim_step r (Unlock l) = refl
  aim_step r (Skip a t) = refl

  pub items_placed : (ps : List (Placed Op)) → items vol (sheet ps) ≡ items_of (step_of vol) ps
  items_placed ps =
      layout_map (item_of vol) barrier (λ o. op (aim (start ps) o)) ps
      ∙ (λ i. layout bar (λ o. stepItem (aim_step (start ps) o i)) ps)
