-- Texts of schedules by computation.
use Rattle.std.specs.Prelude.{◌≡◌, refl, [], ◌∷◌, Some, None}
use Rattle.text_schedule.specs.declared.place.Place.TheVariants.{Blank}
use Rattle.text_schedule.specs.Text.{malformed_from, moves_from, moves_of}

-- "0 1 # x", an empty line, " 3", a tab, "300" and a carriage return: moves 0 1 and 3 255, and no line is malformed
moves_hold : moves_of
    (48 ∷ 32 ∷ 49 ∷ 32 ∷ 35 ∷ 32 ∷ 120 ∷ 10 ∷ 10 ∷ 32 ∷ 51 ∷ 9 ∷ 51 ∷ 48 ∷ 48 ∷ 13 ∷ []) ≡
    0 ∷ 1 ∷ 3 ∷ 255 ∷ []
unfolding moves_from
moves_hold = refl

lines_hold : malformed_from 1 Blank
    (48 ∷ 32 ∷ 49 ∷ 32 ∷ 35 ∷ 32 ∷ 120 ∷ 10 ∷ 10 ∷ 32 ∷ 51 ∷ 9 ∷ 51 ∷ 48 ∷ 48 ∷ 13 ∷ []) ≡ None
unfolding malformed_from
lines_hold = refl

-- "0 0", an empty line, "1", "0 0": the third line is not a move
lane_alone_holds : malformed_from 1 Blank
    (48 ∷ 32 ∷ 48 ∷ 10 ∷ 10 ∷ 49 ∷ 10 ∷ 48 ∷ 32 ∷ 48 ∷ []) ≡ Some 3
unfolding malformed_from
lane_alone_holds = refl
