-- Laws of a level, by what a `match` tells its arms.
use Prim.Native.Nat.{ℕ, ◌+◌, ◌*◌, ◌/◌, ◌%◌, ◌^◌}
use mathlib.Core.Path.{◌≡◌, refl}
use mathlib.Core.Bool.{false}
use mathlib.Core.List.{List, [], ◌∷◌}
use lib.Dec.{eqb}
use types.Run.{OneOf, miss}
use mir.Val.{bool_byte}
use denote.Enum.Declared.{tag_of}
use Rattle.sheet_format.specs.declared.Level.{Level}
use Rattle.sheet_format.specs.declared.Level.TheVariants.{Level0, Level1, Level2, Level3}
use Rattle.sheet_format.specs.Bytes.{level_number}
use Rattle.sheet_format.specs.contracts.Level as T
use Rattle.barrier_pass.specs.Plan.{begin_in}
use Rattle.sheet_lanes.specs.Put.{load_rows}

-- the level is one of those with these tags
abbrev pub Among : List ℕ → Level → Type 0
Among ks l = OneOf ks (tag_of T.the_type l)

-- the levels below 3
pub not_third : (l : Level) → Among (0 ∷ 1 ∷ 2 ∷ []) l → false ≡ eqb (level_number l) 3
not_third Level0 k = refl
not_third Level1 k = refl
not_third Level2 k = refl
not_third Level3 k = absurd (miss (0 ∷ 1 ∷ 2 ∷ []) 3 tt k)

-- level 3's bits stand eight above those of level 2
pub later_begins : (l : Level) (x p : ℕ) → Among (2 ∷ 3 ∷ []) l
    → x / 2 ^ (13 + 8 * bool_byte (eqb (level_number l) 3)) % 256 ≡ begin_in l x p
later_begins Level0 x p k = absurd (miss (2 ∷ 3 ∷ []) 0 tt k)
later_begins Level1 x p k = absurd (miss (2 ∷ 3 ∷ []) 1 tt k)
later_begins Level2 x p k = refl
later_begins Level3 x p k = refl

-- level 1 alone keeps LL and LS
pub no_loads : (l : Level) (x : ℕ) → Among (0 ∷ 2 ∷ 3 ∷ []) l → [] ≡ load_rows l x
no_loads Level0 x k = refl
no_loads Level1 x k = absurd (miss (0 ∷ 2 ∷ 3 ∷ []) 1 tt k)
no_loads Level2 x k = refl
no_loads Level3 x k = refl
