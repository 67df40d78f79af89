-- What the pass knows of a step, as a number: where the barriers due before it stand in what is due, and what it calls
-- for.
use Rattle.std.specs.Prelude.{ℕ, ◌+◌, ◌*◌, List, [], ◌∷◌}
use Rattle.barrier_placement.specs.Cookbook.{number_of}
use Rattle.barrier_placement.specs.Placed.{row_number}
use Rattle.barrier_placement.specs.declared.cookbook.Class.{Class}
use Rattle.barrier_placement.specs.declared.cookbook.Class.TheVariants.{PL, PS, VL, VS}
use Rattle.barrier_placement.specs.declared.steps.Step.{Step}
use Rattle.barrier_placement.specs.declared.steps.Step.TheVariants.{Access, Skip, Other}

-- of an access: how many bits of what is due stand below those of its class, and from bit 5 on its row of the
-- cookbook's table
abbrev pub access_number : Class → ℕ
access_number c = 4 * number_of c + 32 * row_number c

-- a step that is no access has no barriers due before it, and calls for none
abbrev pub idle_number : ℕ
idle_number = 16

abbrev pub known_of : Step → ℕ
known_of (Access c) = access_number c
known_of (Skip t) = idle_number
known_of Other = idle_number

-- by operation code, from 0 to 7, at a plain location and then at a volatile one
abbrev pub known_table : List ℕ
known_table =
    idle_number ∷ idle_number ∷ idle_number ∷ access_number PL
    ∷ access_number PS ∷ access_number VL ∷ access_number VS ∷ idle_number
    ∷ idle_number ∷ idle_number ∷ idle_number ∷ access_number VL
    ∷ access_number VS ∷ access_number VL ∷ access_number VS ∷ idle_number
    ∷ []
