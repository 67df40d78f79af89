-- A schedule as bytes: two a move, lane first.
use Rattle.std.specs.Prelude.{ℕ, ◌%◌, Bool, List, [], ◌∷◌, eqb, length}
use Rattle.machine_spec.specs.Schedule.{Move, move}

-- schedule bytes that are odd in number are refused with 10
abbrev pub odd_bytes : List ℕ → Bool
odd_bytes s = eqb (length s % 2) 1

-- the moves of an even number of bytes; a last byte that has no partner makes none
unfoldable pub moves_in : List ℕ → List Move
moves_in [] = []
moves_in (t ∷ []) = []
moves_in (t ∷ c ∷ rest) = move t c ∷ moves_in rest

-- the bytes of one move
abbrev pub move_bytes : Move → List ℕ
move_bytes mv = mv.lane ∷ mv.choice ∷ []
