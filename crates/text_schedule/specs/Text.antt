-- A schedule as text: one move a line, lane and choice in decimal with blanks between. '#' begins a comment. A line
-- with nothing on it makes no move. A number above 255 counts as 255, which no machine permits either.
use Rattle.std.specs.Prelude.{ℕ, suc, Bool, cond, List, [], ◌∷◌, ◌++◌, eqb, ltb, length}
use Rattle.std.specs.Prelude.{Option, Some, None, Result, Ok, Err}
use Rattle.sheet_format.specs.Bytes.{over}
use Rattle.text_schedule.specs.declared.place.Place.{Place}
use Rattle.text_schedule.specs.declared.place.Place.TheVariants.{Blank, Lane, Between, Choice, Full, Remark}
use Rattle.text_schedule.specs.declared.place.Place.TheVariants.{Noted}
use Rattle.text_schedule.specs.declared.place.Place.TheVariants.{Wrong}
use Rattle.text_schedule.specs.Place.{after, is_wrong}
use Rattle.text_schedule.specs.declared.whole.ScheduleError.{ScheduleError}
use Rattle.text_schedule.specs.declared.whole.ScheduleError.TheVariants.{Malformed, TooLong}

abbrev pub is_newline : ℕ → Bool
is_newline b = eqb b 10

-- the moves of a line that ends here, as bytes
abbrev pub move_at : Place → List ℕ
move_at Blank = []
move_at (Lane l) = []
move_at (Between l) = []
move_at (Choice l c) = l ∷ c ∷ []
move_at (Full l c) = l ∷ c ∷ []
move_at Remark = []
move_at (Noted l c) = l ∷ c ∷ []
move_at Wrong = []

-- the first line, counted from 1, that is no move and not empty either; the reader stands in line n
unfoldable pub malformed_from : ℕ → Place → List ℕ → Option ℕ
malformed_from n p [] = cond (is_wrong p) (Some n) None
malformed_from n p (b ∷ bs) =
    cond (is_newline b) (cond (is_wrong p) (Some n) (malformed_from (suc n) Blank bs)) (malformed_from n (after p b) bs)

-- the moves of the lines, as bytes
unfoldable pub moves_from : Place → List ℕ → List ℕ
moves_from p [] = move_at p
moves_from p (b ∷ bs) = cond (is_newline b) (move_at p ++ moves_from Blank bs) (moves_from (after p b) bs)

abbrev pub moves_of : List ℕ → List ℕ
moves_of text = moves_from Blank text

-- the answer, and the buffer of moves after, where this line is the first that is malformed
abbrev pub read_by : Option ℕ → List ℕ → List ℕ → Result ℕ ScheduleError × List ℕ
read_by (Some line) text buffer = (Err (Malformed line), buffer)
read_by None text buffer =
    cond (ltb (length buffer) (length (moves_of text))) (Err TooLong, buffer)
    (Ok (length (moves_of text)), over (moves_of text) buffer)

abbrev pub read_into : List ℕ → List ℕ → Result ℕ ScheduleError × List ℕ
read_into text buffer = read_by (malformed_from 1 Blank text) text buffer
