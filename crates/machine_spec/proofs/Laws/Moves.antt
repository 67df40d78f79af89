-- Laws of reading moves from bytes.
use Prim.Native.Nat.{ℕ, zero, suc, ◌+◌, ◌*◌, ◌/◌, ◌<◌}
use native.Mathlib.Omega.{arith}
use mathlib.Core.Path.{◌≡◌, refl, sym, ap, ap₂, ◌∙◌}
use mathlib.Core.List.{List, [], ◌∷◌, map}
use mathlib.Core.Option.{some}
use lib.ListN.{length, get_or, get_elem?, drop}
use lib.Seq.{drop-cons}
use Rattle.sheet_format.specs.Bytes.{joined}
use Rattle.machine_spec.specs.Schedule.{Move, move}
use Rattle.machine_spec.specs.Moves.{moves_in, move_bytes}

pub moves_length : (s : List ℕ) → length (moves_in s) ≡ length s / 2
unfolding moves_in
moves_length [] = refl
moves_length (t ∷ []) = refl
moves_length (t ∷ c ∷ rest) = omega (arith, moves_length rest)

-- move k is made of bytes 2k and 2k + 1
pub moves_at : (b : List ℕ) (k : ℕ) → k < length b / 2
    → get_elem? (moves_in b) k ≡ some (move (get_or b (2 * k) 0) (get_or b (2 * k + 1) 0))
unfolding moves_in
moves_at [] k h = absurd (omega arith)
moves_at (t ∷ []) k h = absurd (omega arith)
moves_at (t ∷ c ∷ b) zero h = refl
moves_at (t ∷ c ∷ b) (suc k) h =
    let lane : 2 * suc k ≡ suc (suc (2 * k)) = omega arith in
    let choice : 2 * suc k + 1 ≡ suc (suc (2 * k + 1)) = omega arith in
    moves_at b k (omega arith)
    ∙ ap₂ (λ x y. some (move (get_or (t ∷ c ∷ b) x 0) (get_or (t ∷ c ∷ b) y 0))) (sym lane) (sym choice)

-- A loop over the bytes holds, at byte i: moves_in (drop i s) are the moves left. It takes one move of two bytes.
pub moves_on : (s : List ℕ) (i : ℕ) → i + 1 < length s
    → moves_in (drop i s) ≡ move (get_or s i 0) (get_or s (i + 1) 0) ∷ moves_in (drop (i + 2) s)
unfolding moves_in
moves_on s i h =
    let one : i + 1 ≡ suc i = omega arith in
    let two : i + 2 ≡ suc (suc i) = omega arith in
    rw (one, two, drop-cons s i 0 (omega arith), drop-cons s (suc i) 0 (omega arith))

-- reading gives back the moves that were written
pub moves_back : (mvs : List Move) → moves_in (joined (map move_bytes mvs)) ≡ mvs
unfolding moves_in
moves_back [] = refl
moves_back (mv ∷ mvs) = ap (λ x. mv ∷ x) (moves_back mvs)
