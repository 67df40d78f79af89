-- What placement sees of an operation: its class, or where it can go besides the next position.
use Rattle.std.specs.Prelude.{ℕ, ◌≡◌, refl, Bool, cond, List, [], ◌∷◌, map}
use Rattle.std.proofs.Math.Option.{Option, none, some}
use Rattle.file_format.specs.Accepted.{is_volatile, jump}
use Rattle.file_format.specs.declared.accepted.Op.{Op}
use Rattle.file_format.specs.declared.accepted.Op.TheVariants.{Set, Add, Load, Store, Lock, Unlock, Skip as SkipOp}
use Rattle.barrier_placement.specs.Cookbook.{Class, PL, PS, VL, VS}
use Rattle.barrier_placement.specs.Chain.{Step, Access, Skip, Other, Chain}

-- plain load, plain store; volatile load or LOCK, volatile store or UNLOCK
abbrev pub class_of : (ℕ → Bool) → Op → Option Class
class_of vol (Set a c) = none
class_of vol (Add a b) = none
class_of vol (Load a x) = some (cond (vol x) VL PL)
class_of vol (Store a x) = some (cond (vol x) VS PS)
class_of vol (Lock l) = some VL
class_of vol (Unlock l) = some VS
class_of vol (SkipOp a t) = none

abbrev pub step_by : Option Class → Option ℕ → Step
step_by (some c) t = Access c
step_by none (some t) = Skip t
step_by none none = Other

abbrev pub step_of : (ℕ → Bool) → Op → Step
step_of vol o = step_by (class_of vol o) (jump o)

abbrev pub steps : (ℕ → Bool) → List Op → Chain
steps vol = map (step_of vol)

-- mask 2: location 1 is volatile, location 0 is not
example : steps (is_volatile 2) (Store 0 0 ∷ Load 1 1 ∷ SkipOp 1 4 ∷ Unlock 0 ∷ [])
    ≡ Access PS ∷ Access VL ∷ Skip 4 ∷ Access VS ∷ []
example = refl
