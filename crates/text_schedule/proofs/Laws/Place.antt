-- Laws of places in a line, by what a `match` tells its arms.
use Prim.Native.Nat.{ℕ}
use mathlib.Core.Path.{◌≡◌, refl}
use mathlib.Core.Bool.{true, false}
use mathlib.Core.List.{List, [], ◌∷◌}
use types.Run.{OneOf, miss}
use denote.Enum.Declared.{tag_of}
use Rattle.text_schedule.specs.declared.place.Place.{Place}
use Rattle.text_schedule.specs.declared.place.Place.TheVariants.{Blank, Lane, Between, Choice, Full, Remark}
use Rattle.text_schedule.specs.declared.place.Place.TheVariants.{Noted}
use Rattle.text_schedule.specs.declared.place.Place.TheVariants.{Wrong}
use Rattle.text_schedule.specs.contracts.place.Place as T
use Rattle.text_schedule.specs.Place.{is_wrong}

-- the place is one of those with these tags
abbrev pub Among : List ℕ → Place → Type 0
Among ks p = OneOf ks (tag_of T.the_type p)

pub wrong_at_lem : (p : Place) → Among (1 ∷ 2 ∷ 7 ∷ []) p → true ≡ is_wrong p
wrong_at_lem Blank k = absurd (miss (1 ∷ 2 ∷ 7 ∷ []) 0 tt k)
wrong_at_lem (Lane l) k = refl
wrong_at_lem (Between l) k = refl
wrong_at_lem (Choice l c) k = absurd (miss (1 ∷ 2 ∷ 7 ∷ []) 3 tt k)
wrong_at_lem (Full l c) k = absurd (miss (1 ∷ 2 ∷ 7 ∷ []) 4 tt k)
wrong_at_lem Remark k = absurd (miss (1 ∷ 2 ∷ 7 ∷ []) 5 tt k)
wrong_at_lem (Noted l c) k = absurd (miss (1 ∷ 2 ∷ 7 ∷ []) 6 tt k)
wrong_at_lem Wrong k = refl

pub right_at : (p : Place) → Among (0 ∷ 3 ∷ 4 ∷ 5 ∷ 6 ∷ []) p → false ≡ is_wrong p
right_at Blank k = refl
right_at (Lane l) k = absurd (miss (0 ∷ 3 ∷ 4 ∷ 5 ∷ 6 ∷ []) 1 tt k)
right_at (Between l) k = absurd (miss (0 ∷ 3 ∷ 4 ∷ 5 ∷ 6 ∷ []) 2 tt k)
right_at (Choice l c) k = refl
right_at (Full l c) k = refl
right_at Remark k = refl
right_at (Noted l c) k = refl
right_at Wrong k = absurd (miss (0 ∷ 3 ∷ 4 ∷ 5 ∷ 6 ∷ []) 7 tt k)
