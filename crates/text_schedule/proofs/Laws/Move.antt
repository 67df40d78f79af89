-- Law of the places at which a line makes no move.
use mathlib.Core.Path.{◌≡◌, refl}
use mathlib.Core.List.{[], ◌∷◌}
use types.Run.{miss}
use Rattle.text_schedule.specs.declared.place.Place.{Place}
use Rattle.text_schedule.specs.declared.place.Place.TheVariants.{Blank, Lane, Between, Choice, Full, Remark}
use Rattle.text_schedule.specs.declared.place.Place.TheVariants.{Noted}
use Rattle.text_schedule.specs.declared.place.Place.TheVariants.{Wrong}
use Rattle.text_schedule.proofs.Laws.Place.{Among}
use Rattle.text_schedule.specs.Text.{move_at}

pub no_move : (p : Place) → Among (0 ∷ 1 ∷ 2 ∷ 5 ∷ 7 ∷ []) p → [] ≡ move_at p
no_move Blank k = refl
no_move (Lane l) k = refl
no_move (Between l) k = refl
no_move (Choice l c) k = absurd (miss (0 ∷ 1 ∷ 2 ∷ 5 ∷ 7 ∷ []) 3 tt k)
no_move (Full l c) k = absurd (miss (0 ∷ 1 ∷ 2 ∷ 5 ∷ 7 ∷ []) 4 tt k)
no_move Remark k = refl
no_move (Noted l c) k = absurd (miss (0 ∷ 1 ∷ 2 ∷ 5 ∷ 7 ∷ []) 6 tt k)
no_move Wrong k = refl
